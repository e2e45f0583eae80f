-- Of a list whose lines stand in a text, what is left after the elements that were read.
use Rattle.std.proofs.Common.{◌≡◌, ℕ, suc, ◌+◌, ◌<◌, ◌≤◌, ◌⊎◌, true, List, [], ◌∷◌, ◌++◌, length, drop, get_or, codes, Some, refl, sym, ap, subst, ◌∙◌, append_assoc, append-nil, inl, inr, arith}
use Rattle.std.proofs.lemmas.List.{length-append, length-drop, get_or-drop}
use Rattle.t1_log.specs.Hex.{hex_of, hex_of_bytes}
use Rattle.t1_log.specs.Lines.{place_line_of}
use Rattle.t1_log.specs.Log.{kill_field_of, kill_fields_of, commit_head_of, commit_line_of, item_line_of}
use Rattle.t1_event.specs.declared.report.Place.{Place}
use Rattle.t1_event.specs.declared.commit.Commit.{Commit}
use Rattle.t1_event.specs.declared.item.Item.{Item}
use Rattle.t1_log.specs.Texts.{lines_from}
use Rattle.t1_take.specs.declared.cursor.Cursor.{Cursor}
use Rattle.t1_take.specs.Taken.{IsGood, EndsDigits, Leaves}
use Rattle.std.specs.Prelude.{All}
use Rattle.std.specs.List.{slice_get}
use Rattle.t1_num.specs.MemoryLaws.{AreBytes}
use Rattle.t1_packet.specs.Data.{KillData}

pub record IsLeft {A : Type 0} (line : ℕ → A → List ℕ) (text : List ℕ) (at : ℕ) (done all : List A) (rest : List ℕ) : Type 0 where
  pub left : List A
  pub all_is : all ≡ done ++ left
  pub rest_is : drop at text ≡ lines_from line (length done) left ++ rest

pub left_start : {A : Type 0} (line : ℕ → A → List ℕ) (text : List ℕ) (at : ℕ) (done all : List A) (rest : List ℕ) → done ≡ [] → drop at text ≡ lines_from line 0 all ++ rest → IsLeft line text at done all rest
left_start line text at done all rest e d = record {
  left = all;
  all_is = ap (λ xs. xs ++ all) (sym e);
  rest_is = d ∙ ap (λ (n : ℕ). lines_from line n all ++ rest) (sym (ap length e));
}

-- nothing is left, or an element stands next
pub record IsNext {A : Type 0} (line : ℕ → A → List ℕ) (text : List ℕ) (at : ℕ) (done all : List A) (rest : List ℕ) : Type 0 where
  pub one : A
  pub more : List A
  pub all_is : all ≡ done ++ one ∷ more
  pub rest_is : drop at text ≡ line (length done) one ++ (lines_from line (length done + 1) more ++ rest)

pub left_cases : {A : Type 0} (line : ℕ → A → List ℕ) (text : List ℕ) (at : ℕ) (done all : List A) (rest : List ℕ) → IsLeft line text at done all rest
    → ((all ≡ done) × (drop at text ≡ rest)) ⊎ IsNext line text at done all rest
unfolding lines_from
left_cases {A = A} line text at done all rest s = by s.left s.all_is s.rest_is
  where
    by : (left : List A) → all ≡ done ++ left → drop at text ≡ lines_from line (length done) left ++ rest → ((all ≡ done) × (drop at text ≡ rest)) ⊎ IsNext line text at done all rest
    by [] e d = inl (e ∙ append-nil done, d)
    by (x ∷ more) e d = inr (record { one = x; more = more; all_is = e; rest_is = d ∙ append_assoc (line (length done) x) (lines_from line (length done + 1) more) rest })

pub left_next : {A : Type 0} (line : ℕ → A → List ℕ) (text : List ℕ) (at next : ℕ) (done longer all : List A) (one : A) (rest : List ℕ) (s : IsNext line text at done all rest) → s.one ≡ one
    → longer ≡ done ++ one ∷ [] → drop next text ≡ lines_from line (length done + 1) s.more ++ rest → IsLeft line text next longer all rest
left_next line text at next done longer all one rest s e l d =
    let n : length longer ≡ length done + 1 = ap length l ∙ length-append done (one ∷ []) in
    record {
      left = s.more;
      all_is = s.all_is ∙ (ap (λ x. done ++ x ∷ s.more) e ∙ (sym (append_assoc done (one ∷ []) s.more) ∙ ap (λ xs. xs ++ s.more) (sym l)));
      rest_is = d ∙ ap (λ (k : ℕ). lines_from line k s.more ++ rest) (sym n);
    }

-- ---- places

pub first_at : (text : List ℕ) (at byte : ℕ) (rest : List ℕ) → drop at text ≡ byte ∷ rest → get_or text at 0 ≡ byte
first_at text at byte rest e =
    (let z : at + 0 ≡ at = omega arith in ap (λ k. get_or text k 0) (sym z)) ∙ (sym (get_or-drop at text 0 0) ∙ ap (λ (t : List ℕ). get_or t 0 0) e)

pub peeked : (text : List ℕ) (at : ℕ) (rest : List ℕ) → drop at text ≡ rest → get_or text at 0 ≡ get_or rest 0 0
peeked text at rest e =
    (let z : at + 0 ≡ at = omega arith in ap (λ k. get_or text k 0) (sym z)) ∙ (sym (get_or-drop at text 0 0) ∙ ap (λ (t : List ℕ). get_or t 0 0) e)

pub within_text : (text : List ℕ) (at : ℕ) (rest : List ℕ) → 0 < length rest → drop at text ≡ rest → at < length text
within_text text at rest some e = (let n = ap length e in omega (arith, n, length-drop at text, some))

-- ---- fields of one line, with the cursor that takes them

pub record PiecesLeft {A : Type 0} (f : List A → List ℕ) (text : List ℕ) (start now : Cursor) (done all : List A) (rest : List ℕ) : Type 0 where
  pub left : List A
  pub all_is : all ≡ done ++ left
  pub good : IsGood start → IsGood now
  pub rest_is : drop now.at text ≡ f left ++ rest

-- each element has a piece
pub record IsSpelled {A : Type 0} (f : List A → List ℕ) (g : A → List ℕ) : Type 0 where
  pub none : f [] ≡ []
  pub more : (x : A) (xs : List A) → f (x ∷ xs) ≡ g x ++ f xs

pub record IsPieceNext {A : Type 0} (f : List A → List ℕ) (g : A → List ℕ) (text : List ℕ) (now : Cursor) (done all : List A) (rest : List ℕ) : Type 0 where
  pub one : A
  pub more : List A
  pub all_is : all ≡ done ++ one ∷ more
  pub rest_is : drop now.at text ≡ g one ++ (f more ++ rest)

pub pieces_start : {A : Type 0} (f : List A → List ℕ) (text : List ℕ) (start : Cursor) (done all : List A) (rest : List ℕ) → done ≡ [] → drop start.at text ≡ f all ++ rest → PiecesLeft f text start start done all rest
pieces_start f text start done all rest e d = record { left = all; all_is = ap (λ xs. xs ++ all) (sym e); good = λ g. g; rest_is = d }

pub pieces_cases : {A : Type 0} (f : List A → List ℕ) (g : A → List ℕ) → IsSpelled f g → (text : List ℕ) (start now : Cursor) (done all : List A) (rest : List ℕ) → PiecesLeft f text start now done all rest
    → ((all ≡ done) × (drop now.at text ≡ rest)) ⊎ IsPieceNext f g text now done all rest
pieces_cases {A = A} f g law text start now done all rest s = by s.left s.all_is s.rest_is
  where
    by : (left : List A) → all ≡ done ++ left → drop now.at text ≡ f left ++ rest → ((all ≡ done) × (drop now.at text ≡ rest)) ⊎ IsPieceNext f g text now done all rest
    by [] e d = inl (e ∙ append-nil done, d ∙ ap (λ t. t ++ rest) law.none)
    by (x ∷ more) e d = inr (record { one = x; more = more; all_is = e; rest_is = d ∙ (ap (λ t. t ++ rest) (law.more x more) ∙ append_assoc (g x) (f more) rest) })

pub pieces_next : {A : Type 0} (f : List A → List ℕ) (g : A → List ℕ) (text : List ℕ) (start now after : Cursor) (done longer all : List A) (rest : List ℕ) → PiecesLeft f text start now done all rest
    → (s : IsPieceNext f g text now done all rest) → longer ≡ done ++ s.one ∷ [] → Leaves text now after (f s.more ++ rest) → PiecesLeft f text start after longer all rest
pieces_next f g text start now after done longer all rest p s l left = record {
  left = s.more;
  all_is = s.all_is ∙ (sym (append_assoc done (s.one ∷ []) s.more) ∙ ap (λ xs. xs ++ s.more) (sym l));
  good = λ k. left.good (p.good k);
  rest_is = left.rest_is;
}

pub kills_spelled : IsSpelled kill_fields_of kill_field_of
unfolding kill_fields_of
kills_spelled = record { none = refl; more = λ x xs. refl }

pub bytes_spelled : IsSpelled hex_of_bytes (hex_of 2)
unfolding hex_of_bytes
bytes_spelled = record { none = refl; more = λ x xs. refl }

-- a number follows no digit of the next kill
pub kills_end : (more : List KillData) (rest : List ℕ) → EndsDigits (kill_fields_of more ++ (codes "\n" ++ rest))
unfolding kill_fields_of kill_field_of
kills_end [] rest = refl
kills_end (kill ∷ more) rest = refl

-- what holds of all holds of each
middle : {A : Type 0} (P : A → Type 0) (done : List A) (x : A) (more : List A) → All P (done ++ x ∷ more) → P x
middle P [] x more a = a 0 x (omega arith)
middle P (y ∷ ys) x more a = middle P ys x more (λ k d l. a (suc k) d (omega (arith, l)))

pub all_next : {A : Type 0} (P : A → Type 0) (done all : List A) (x : A) (more : List A) → All P all → all ≡ done ++ x ∷ more → P x
all_next P done all x more a e = middle P done x more (subst (All P) e a)

byte_middle : (done : List ℕ) (x : ℕ) (more : List ℕ) → AreBytes (done ++ x ∷ more) → x < 256
byte_middle [] x more a = a 0
byte_middle (y ∷ ys) x more a = byte_middle ys x more (λ i. a (suc i))

pub byte_next : (done all : List ℕ) (x : ℕ) (more : List ℕ) → AreBytes all → all ≡ done ++ x ∷ more → x < 256
byte_next done all x more a e = byte_middle done x more (subst AreBytes e a)

pub longer_than : {A : Type 0} (done all : List A) (x : A) (more : List A) → all ≡ done ++ x ∷ more → length done + 1 ≤ length all
longer_than done all x more e = (let n = ap length e ∙ length-append done (x ∷ more) in omega (arith, n))

-- ---- loops over lines

-- a text that is read to its end has nothing left
pub not_past : {A : Type 0} (line : ℕ → A → List ℕ) (text : List ℕ) (at : ℕ) (done all : List A) (rest : List ℕ) → IsLeft line text at done all rest → 0 < length rest → length text ≤ at → ⊥
not_past line text at done all rest s some past =
    let n = ap length s.rest_is ∙ length-append (lines_from line (length done) s.left) rest in
    omega (arith, n, length-drop at text, some, past)

pub place_some : (place : Place) → 0 < length (place_line_of place)
unfolding place_line_of
place_some place = omega arith

pub place_first : (place : Place) (rest : List ℕ) → get_or (place_line_of place ++ rest) 0 0 ≡ 111
unfolding place_line_of
place_first place rest = refl

pub commit_some : (index : ℕ) (commit : Commit) → 0 < length (commit_line_of index commit)
unfolding commit_line_of commit_head_of
commit_some index commit = omega arith

pub commit_first : (index : ℕ) (commit : Commit) (rest : List ℕ) → get_or (commit_line_of index commit ++ rest) 0 0 ≡ 99
unfolding commit_line_of commit_head_of
commit_first index commit rest = refl

pub item_some : (strand number : ℕ) (item : Item) → 0 < length (item_line_of strand number item)
unfolding item_line_of
item_some strand number item = omega arith

pub item_first : (strand number : ℕ) (item : Item) (rest : List ℕ) → get_or (item_line_of strand number item ++ rest) 0 0 ≡ 105
unfolding item_line_of
item_first strand number item rest = refl

-- where a cursor begins
pub begun_good : (cursor : Cursor) (at : ℕ) → cursor ≡ record { at = at; good = true } → IsGood cursor
begun_good cursor at e = subst IsGood (sym e) refl

pub begun_at : (text : List ℕ) (cursor : Cursor) (at : ℕ) (rest : List ℕ) → cursor ≡ record { at = at; good = true } → drop at text ≡ rest → drop cursor.at text ≡ rest
begun_at text cursor at rest e d = ap (λ (k : Cursor). drop k.at text) e ∙ d

pub slice_middle : {A : Type 0} (done : List A) (x : A) (more : List A) → slice_get (done ++ x ∷ more) (length done) ≡ Some x
slice_middle [] x more = refl
slice_middle (y ∷ ys) x more = slice_middle ys x more
