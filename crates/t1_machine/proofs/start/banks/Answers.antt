use Rattle.std.proofs.Common.{◌≡◌, ◌∙◌, ◌+◌, ◌-◌, ◌++◌, ◌∷◌, [], ℕ, List, ap}
use Rattle.t1_event.specs.BankRule.{BankState, bank_start}
use Rattle.t1_joint.specs.Start.{Setup}
use Rattle.t1_joint.specs.Fit.{destination_start}
use Rattle.t1_machine.specs.Start.{setup_of, banks_from}
use Rattle.t1_machine.proofs.Starts.{one_bank_more}
use Rattle.t1_machine.proofs.start.banks.Goals as goal

pub loop-bank-preserved : goal.loop-bank-preserved
loop-bank-preserved c =
    let w : Setup = setup_of c.args.config.now c.args.image.now in
    let bank : ℕ = c.loop-bank.bank in
    let made : List BankState = c.loop-bank.all.items in
    let is : c.in_ok-new.field-0 ≡ destination_start w bank =
    c.in_ok-new.ensures ∙ ap (λ (ram : List ℕ). bank_start c.args.config.now.chip bank c.args.config.now.cores c.args.config.now.sets ram) c.as_slice.ensures in
    let all : c.push.new.self.items ≡ made ++ destination_start w bank ∷ [] = c.in_ok-push.ensures.items ∙ ap (λ (b : BankState). made ++ b ∷ []) is in
    ap (λ (banks : List BankState). banks ++ banks_from w (bank + 1) (c.banks-count.result - (bank + 1))) all ∙ (one_bank_more w bank c.banks-count.result made c.loop-bank-test.true ∙ c.loop-bank.invariant)
