use Rattle.std.proofs.Common.{◌≡◌, ◌∙◌, ◌++◌, ◌≤◌, ℕ, List, Bool, true, eqb, not, codes, ap, sym, subst, arith}
use Rattle.t1_log.specs.Log.{place_fields_of}
use Rattle.t1_take.specs.Items.{IsValueOf}
use Rattle.t1_take.specs.Fields.{span_of, field_of}
use Rattle.t1_take.proofs.Finding.{next}
use Rattle.t1_take.proofs.ItemsFound.{dash_tells}
use Rattle.t1_take.proofs.item.take_both.Goals as goal

pub returns-clause-finds : goal.returns-clause-finds
returns-clause-finds c = λ wrote fields rest good some few after e.
    let place : List ℕ = place_fields_of fields.how in
    let p3 : List ℕ = field_of wrote fields.size fields.put ++ place in
    let p2 : List ℕ = codes " " ++ p3 in
    let p1 : List ℕ = field_of true fields.size fields.got ++ p2 in
    let s1 = c.take_span-addr.ensures.finds fields.addr fields.size (p1 ++ rest) good.addr (omega (arith, few)) (next _ (span_of fields.addr fields.size) p1 rest e) in
    let size = s1.1 in
    let low : 1 ≤ c.take_span-addr.result.1 = omega (arith, size, some) in
    let high : c.take_span-addr.result.1 ≤ 8 = omega (arith, size, few) in
    let s2 = c.take_field-got.ensures.finds fields.got (p2 ++ rest) low high (subst (λ (n : ℕ). IsValueOf true n fields.got) (sym size) (good.got few))
    (next _ (field_of true fields.size fields.got) p2 rest s1.2.rest_is ∙ ap (λ (n : ℕ). field_of true n fields.got ++ (p2 ++ rest)) (sym size)) in
    let s3 = c.word.ensures.finds (omega arith) (p3 ++ rest) s2.1.rest_is in
    let told : not (eqb c.peek-wrote.result 45) ≡ wrote = dash_tells wrote fields.size fields.put place rest c.args.text.now c.word.new.self.at c.peek-wrote.result some c.peek-wrote.ensures s3.rest_is in
    let s4 = c.take_field-put.ensures.finds fields.put (place ++ rest) low high
    (subst (λ (b : Bool). IsValueOf b c.take_span-addr.result.1 fields.put) (sym told) (subst (λ (n : ℕ). IsValueOf wrote n fields.put) (sym size) (good.put few)))
    (next _ (field_of wrote fields.size fields.put) place rest s3.rest_is
    ∙ (ap (λ (n : ℕ). field_of wrote n fields.put ++ (place ++ rest)) (sym size) ∙ ap (λ (b : Bool). field_of b c.take_span-addr.result.1 fields.put ++ (place ++ rest)) (sym told))) in
    let s5 = c.take_how-how.ensures.finds fields.how rest good.place after s4.1.rest_is in (
      told,
      λ i. record { addr = s1.0 i; size = s1.1 i; got = s2.0 i; put = s4.0 i; how = s5.0 i },
      record { good = λ g. s5.1.good (s4.1.good (s3.good (s2.1.good (s1.2.good g)))); rest_is = s5.1.rest_is },
    )
