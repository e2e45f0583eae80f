use Rattle.std.proofs.Common.{◌≡◌, ℕ, ◌+◌, ◌<◌, ◌≤◌, List, [], ◌∷◌, ◌++◌, length, drop, sym, ◌∙◌, ap, subst, arith}
use Rattle.std.proofs.lemmas.List.{length-append, drop_all}
use Rattle.t1_packet.specs.Data.{KillData}
use Rattle.t1_packet.proofs.FirstKills.{first_after, first_of_all, first-end, next-more, next-other, next-full}
use Rattle.t1_packet.proofs.post.kills_to.Goals as goal
use Rattle.t1_packet.proofs.post.kills_to.Goals.{then-kill-core+then-len-lt8, else-kill-core, else-kill-core-via-then-kill-core+else-len-lt8, else-kill-core-via-else-kill-core}

-- src/post.rt:29:5
pub loop-kill-init : goal.loop-kill-init
loop-kill-init c = (
  ap (λ (ks : List KillData). first_after c.args.core ks c.as_slice-kill-items.result.now) c.new-kills.ensures
      ∙ (ap (λ (ks : List KillData). first_after c.args.core [] ks) c.as_slice-kill-items.ensures.value
      ∙ first_of_all c.args.core c.args.served.now.kills),
  subst (λ (ks : List KillData). length ks ≤ 8) (sym c.new-kills.ensures) (omega arith),
)

-- src/post.rt:29:5
pub loop-kill-preserved : goal.loop-kill-preserved
loop-kill-preserved c =
    let kills : List KillData = c.as_slice-kill-items.result.now in
    let i : ℕ = c.loop-kill.kill-index in
    let found : List KillData = c.loop-kill.kills in
    let kill : KillData = c.kill-item.result in
    let core-is : c.kill.inside.core ≡ kill.core = ap (λ (k : KillData). k.core) c.kill.view_is in
    elim c.if-kill-core.branch [
      | then-kill-core+then-len-lt8 w ↦
          let now : c.if-kill-core.kills ≡ found ++ kill ∷ [] = w.kills-is ∙ (w.push.ensures ∙ ap (λ (k : KillData). found ++ k ∷ []) c.kill.view_is) in
          let few : length found < 8 = omega (arith, w.len.ensures.value, w.if-len-lt8.true) in (
            ap (λ (ks : List KillData). first_after c.args.core ks (drop (i + 1) kills)) now
                ∙ (next-more c.args.core found kills i kill (c.loop-kill-test.true, c.kill-item.is) (sym core-is ∙ w.if-kill-core.true)
                ∙ c.loop-kill.invariant.0),
            subst (λ (ks : List KillData). length ks ≤ 8) (sym now) (omega (arith, length-append found (kill ∷ []), few)),
          )
      | else-kill-core w ↦
          let now : c.if-kill-core.kills ≡ found = w.kills-is in (
            ap (λ (ks : List KillData). first_after c.args.core ks (drop (i + 1) kills)) now
                ∙ (elim w.else-kill-core.branch [
                  | else-kill-core-via-then-kill-core+else-len-lt8 v ↦
                      next-full c.args.core found kills i (omega (arith, v.len.ensures.value, v.if-len-lt8.false, c.loop-kill.invariant.1))
                  | else-kill-core-via-else-kill-core v ↦
                      next-other c.args.core found kills i kill (c.loop-kill-test.true, c.kill-item.is) (λ e. v.if-kill-core.false (core-is ∙ e))
                ]
                ∙ c.loop-kill.invariant.0),
            subst (λ (ks : List KillData). length ks ≤ 8) (sym now) c.loop-kill.invariant.1,
          )
    ]

-- src/post.rt:25:1
pub returns : goal.returns
returns c =
    let kills : List KillData = c.as_slice-kill-items.result.now in
    let end : drop c.loop-kill.kill-index kills ≡ [] = drop_all c.loop-kill.kill-index kills c.loop-kill-test.false in
    sym (first-end c.args.core c.loop-kill.kills c.loop-kill.invariant.1)
    ∙ (sym (ap (λ (ks : List KillData). first_after c.args.core c.loop-kill.kills ks) end) ∙ c.loop-kill.invariant.0)
