-- Fields that are taken one after another.
use Rattle.std.proofs.Common.{◌≡◌, ℕ, ◌+◌, ◌++◌, List, [], length, drop, take, Option, Some, None, refl, sym, ap, subst, ◌∙◌, append_assoc}
use Rattle.std.proofs.lemmas.List.{drop-drop, take-append-drop}
use Rattle.std.proofs.Math.Seq.{drop-append_seam}
use Rattle.std.specs.Option.{IfSome}
use Rattle.t1_take.specs.declared.cursor.Cursor.{Cursor}
use Rattle.t1_take.specs.Taken.{Reads, Takes}

pub reads_then : (text : List ℕ) (a b c : ℕ) (p q : List ℕ) → Reads text a b p → Reads text b c q → Reads text a c (p ++ q)
reads_then text a b c p q x y = x ∙ (ap (λ r. p ++ r) y ∙ sym (append_assoc p q (drop c text)))

pub followed : {text p q : List ℕ} {a b c : Cursor} → Takes text a b p → Takes text b c q → Takes text a c (p ++ q)
followed {text = text} {p = p} {q = q} {a = a} {b = b} {c = c} x y = record {
  before = λ g. x.before (y.before g);
  reads = λ g. reads_then text a.at b.at c.at p q (x.reads (y.before g)) (y.reads g);
}

pub nothing : (text : List ℕ) (a : Cursor) → Takes text a a []
nothing text a = record { before = λ g. g; reads = λ _. refl }

pub renamed : {text : List ℕ} {a b : Cursor} {p q : List ℕ} → p ≡ q → Takes text a b p → Takes text a b q
renamed {text = text} {a = a} {b = b} e x = subst (λ f. Takes text a b f) e x

-- a place further on
pub reads_on : (text word rest : List ℕ) (at : ℕ) → drop at text ≡ word ++ rest → Reads text at (at + length word) word
reads_on text word rest at e =
    let tail : drop (at + length word) text ≡ rest = sym (drop-drop (length word) at text) ∙ (ap (drop (length word)) e ∙ drop-append_seam word rest) in
    e ∙ ap (λ r. word ++ r) (sym tail)

pub reads_first : (text : List ℕ) (at n : ℕ) → Reads text at (at + n) (take n (drop at text))
reads_first text at n = sym (take-append-drop n (drop at text)) ∙ ap (λ r. take n (drop at text) ++ r) (drop-drop n at text)

pub if_some : {A : Type 0} (o : Option A) (P Q : A → Type 0) → IfSome o P → ((x : A) → P x → Q x) → IfSome o Q
if_some None P Q h f = tt
if_some (Some x) P Q h f = f x h
