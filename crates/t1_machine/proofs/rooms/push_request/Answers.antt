use Rattle.std.proofs.Common.{◌≡◌, ◌+◌, ◌*◌, [], get_or, arith}
use Rattle.std.proofs.lemmas.List.{get_or_read}
use Rattle.t1_machine.proofs.Bits.{request_has_room}
use Rattle.t1_machine.proofs.rooms.push_request.Goals as goal

pub push-requires : goal.push-requires
push-requires c =
    let room = request_has_room c.args.requests.now.items c.args.core c.args.dest c.requires.dest c.requires.room in
    let here : c.index_mut-ring.result.now ≡ get_or c.args.requests.now.items (9 * c.args.core + c.args.dest) [] =
    get_or_read c.args.requests.now.items _ _ (omega (arith, c.requires.within, c.requires.dest)) c.index_mut-ring.ensures.value [] in
    rw here (omega arith, room)
