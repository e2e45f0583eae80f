use Rattle.std.proofs.Common.{◌∙◌, ◌++◌, ◌∷◌, [], ◌/◌, List, ap, sym, refl}
use Rattle.t1_dir.specs.Directory.{tags_at}
use Rattle.t1_packet.specs.Caches.{layout, width}
use Rattle.t1_packet.specs.Data.{KillData}
use Rattle.t1_shape.specs.Slots.{slot_of}
use Rattle.t1_bank.proofs.Found.{copy_from}
use Rattle.t1_bank.proofs.copies.add_copy.Goals as goal

pub returns-in-Some-clause-value : goal.returns-in-Some-clause-value
returns-in-Some-clause-value c =
    let tags = tags_at c.args.directory.now c.args.core c.args.cache in
    let line = c.args.addr / width c.args.cache in
    c.push.ensures
    ∙ ap (λ (ks : List KillData). c.args.kills.now ++ ks)
    (ap (λ (k : KillData). k ∷ []) c.new.ensures
    ∙ copy_from c.args.directory.now.shape tags line c.args.core c.args.cache c.set_of.result c.in-Some.way (slot_of (layout c.args.directory.now.shape c.args.cache) tags line) refl (sym c.in-Some.is ∙ c.way_of.ensures) c.set_of.ensures.value)
