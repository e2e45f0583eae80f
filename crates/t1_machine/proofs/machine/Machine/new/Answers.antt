use Rattle.std.proofs.Common.{◌≡◌, ◌∙◌, ◌*◌, ℕ, List, [], get_or, length, replicate, sym, ap, arith}
use Rattle.std.proofs.Math.ListN.{length-replicate}
use Rattle.t1_shape.specs.Numbers.{banks as chip_banks}
use Rattle.t1_packet.specs.Data.{RequestData}
use Rattle.t1_packet.specs.declared.served.Served.{Served}
use Rattle.t1_packet.specs.declared.packet.Packet.{Packet}
use Rattle.t1_xbar.specs.Admission.{XbarState}
use Rattle.t1_event.specs.BankRule.{BankState}
use Rattle.t1_core.specs.Steps.{CoreState}
use Rattle.t1_machine.specs.Start.{setup_of}
use Rattle.t1_machine.proofs.Starts.{cores_length, banks_length, zeros}
use Rattle.t1_machine.proofs.machine.Machine.new.Goals as goal

pub invariant_of-result : goal.invariant_of-result
invariant_of-result c =
    let config = c.args.config.now in
    let n = config.cores in
    let s = c.requires in
    let cores : length c.in_ok-cores.field-0.items ≡ n = ap (λ (l : List CoreState). length l) c.in_ok-cores.ensures ∙ cores_length config c.args.image.now.entry 0 n in
    let requests : length c.in_ok-rings.field-0.items ≡ 9 * n = ap (λ (l : List (List RequestData)). length l) c.in_ok-rings.ensures ∙ length-replicate {A = List RequestData} (9 * n) [] in
    let served : length c.in_ok-rings-2.field-0.items ≡ 9 = ap (λ (l : List (List Served)). length l) c.in_ok-rings-2.ensures ∙ length-replicate {A = List Served} 9 [] in
    let replies : length c.in_ok-rings-3.field-0.items ≡ n = ap (λ (l : List (List Packet)). length l) c.in_ok-rings-3.ensures ∙ length-replicate {A = List Packet} n [] in
    let banks : length c.in_ok-banks.field-0.items ≡ chip_banks config.chip = ap (λ (l : List BankState). length l) c.in_ok-banks.ensures ∙ banks_length (setup_of config c.args.image.now) 0 (chip_banks config.chip) in
    let is_zeros : c.in_ok-from_elem.field-0.items ≡ replicate {A = ℕ} 9 0 = c.in_ok-from_elem.ensures.items_if_clones_equal (λ y e. e) in
    let tried : length c.in_ok-from_elem.field-0.items ≡ 9 = ap (λ (l : List ℕ). length l) is_zeros ∙ length-replicate {A = ℕ} 9 0 in (
      record {
        some = omega (arith, cores, s.some_cores);
        few = omega (arith, cores, s.few_cores);
        all_requests = omega (arith, cores, requests);
        all_served = served;
        all_replies = replies ∙ sym cores;
        all_banks = banks;
        all_tried = tried;
      },
      ap (λ (x : XbarState). x.cores) c.in_ok-new.ensures ∙ sym cores,
      λ d.
          let z : get_or c.in_ok-from_elem.field-0.items d 0 ≡ 0 = ap (λ (l : List ℕ). get_or l d 0) is_zeros ∙ zeros 9 d in
          omega (arith, z, cores, s.some_cores),
    )
