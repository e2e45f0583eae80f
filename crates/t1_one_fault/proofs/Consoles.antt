-- Two consoles in one text are one, or bytes stand behind one of them, whose lines are full.
use Rattle.std.proofs.Common.{◌≡◌, ℕ, zero, suc, ◌*◌, ◌%◌, ◌<◌, ◌≤◌, List, [], ◌∷◌, ◌++◌, length, take, drop, refl, sym, ap, ◌∙◌, append_assoc, arith}
use Rattle.std.proofs.lemmas.List.{length-take, length-drop}
use Rattle.t1_num.specs.MemoryLaws.{AreBytes}
use Rattle.t1_log.specs.Log.{console_line_of, console_lines_of}
use Rattle.t1_take.proofs.ConsoleTexts.{no_console}
use Rattle.t1_read.proofs.ImageFound.{bytes_take, bytes_drop}
use Rattle.t1_read.proofs.ConsoleFound.{console_front}
use Rattle.t1_one_text.proofs.Bytes.{runs_cut}
use Rattle.t1_one_text.proofs.Images.{joined}

-- bytes stand next behind full lines
pub record AreBytesNext (xs ys x : List ℕ) : Type 0 where
  pub bytes : List ℕ
  pub more : List ℕ
  pub whole : length xs % 32 ≡ 0
  pub longer : length xs < length ys
  pub some : 1 ≤ length bytes
  pub few : length bytes ≤ 32
  pub are_bytes : AreBytes bytes
  pub rest_is : x ≡ console_line_of 0 bytes ++ more

pub data ConsolesCompared (xs ys x y : List ℕ) : Type 0 where
  SameConsole : xs ≡ ys → x ≡ y → ConsolesCompared xs ys x y
  LongerConsole : AreBytesNext xs ys x → ConsolesCompared xs ys x y
  ShorterConsole : AreBytesNext ys xs y → ConsolesCompared xs ys x y

pub none_is : (x : List ℕ) → console_lines_of [] ++ x ≡ x
none_is x = ap (λ (t : List ℕ). t ++ x) (no_console [] refl)

pub front_is : (xs x : List ℕ) → 1 ≤ length xs → console_lines_of xs ++ x ≡ console_line_of 0 (take 32 xs) ++ (console_lines_of (drop 32 xs) ++ x)
front_is xs x some = ap (λ (t : List ℕ). t ++ x) (console_front xs some) ∙ append_assoc (console_line_of 0 (take 32 xs)) (console_lines_of (drop 32 xs)) x

first_bytes : (ys x y : List ℕ) → 1 ≤ length ys → AreBytes ys → x ≡ console_lines_of ys ++ y → AreBytesNext [] ys x
first_bytes ys x y some b e =
    let n = length-take 32 ys in
    record {
      bytes = take 32 ys;
      more = console_lines_of (drop 32 ys) ++ y;
      whole = refl;
      longer = omega (arith, some);
      some = omega (arith, n, some);
      few = omega (arith, n);
      are_bytes = bytes_take 32 ys b;
      rest_is = e ∙ front_is ys y some;
    }

-- behind one line
later : (xs ys x : List ℕ) → take 32 xs ≡ take 32 ys → AreBytesNext (drop 32 xs) (drop 32 ys) x → AreBytesNext xs ys x
later xs ys x first f =
    let p = length-drop 32 xs in
    let q = length-drop 32 ys in
    let m = length-take 32 xs in
    let n = length-take 32 ys in
    let same = ap length first in
    let whole = f.whole in
    let longer = f.longer in
    record {
      bytes = f.bytes;
      more = f.more;
      whole = omega (arith, p, q, m, n, same, whole, longer);
      longer = omega (arith, p, q, longer);
      some = f.some;
      few = f.few;
      are_bytes = f.are_bytes;
      rest_is = f.rest_is;
    }

later_both : (xs ys x y : List ℕ) → take 32 xs ≡ take 32 ys → ConsolesCompared (drop 32 xs) (drop 32 ys) x y → ConsolesCompared xs ys x y
later_both xs ys x y first (SameConsole rest e) = SameConsole (joined xs ys first rest) e
later_both xs ys x y first (LongerConsole f) = LongerConsole (later xs ys x first f)
later_both xs ys x y first (ShorterConsole f) = ShorterConsole (later ys xs y (sym first) f)

runs_compared : (k : ℕ) (xs ys x y : List ℕ) → length xs ≤ 32 * k → AreBytes xs → AreBytes ys → console_lines_of xs ++ x ≡ console_lines_of ys ++ y → ConsolesCompared xs ys x y
runs_compared k [] [] x y l a b e = SameConsole refl (sym (none_is x) ∙ (e ∙ none_is y))
runs_compared k [] (v ∷ ys) x y l a b e = LongerConsole (first_bytes (v ∷ ys) x y (omega arith) b (sym (none_is x) ∙ e))
runs_compared k (u ∷ xs) [] x y l a b e = ShorterConsole (first_bytes (u ∷ xs) y x (omega arith) a (sym (none_is y) ∙ sym e))
runs_compared zero (u ∷ xs) (v ∷ ys) x y l a b e = absurd (omega (arith, l))
runs_compared (suc k) (u ∷ xs) (v ∷ ys) x y l a b e =
    let us : List ℕ = u ∷ xs in
    let vs : List ℕ = v ∷ ys in
    let p = length-drop 32 us in
    let one = runs_cut 0 (take 32 us) (take 32 vs) (console_lines_of (drop 32 us) ++ x) (console_lines_of (drop 32 vs) ++ y) (bytes_take 32 us a) (bytes_take 32 vs b)
    (sym (front_is us x (omega arith)) ∙ (e ∙ front_is vs y (omega arith))) in
    later_both us vs x y one.0 (runs_compared k (drop 32 us) (drop 32 vs) x y (omega (arith, p, l)) (bytes_drop 32 us a) (bytes_drop 32 vs b) one.1)

pub consoles_compared : (xs ys x y : List ℕ) → AreBytes xs → AreBytes ys → console_lines_of xs ++ x ≡ console_lines_of ys ++ y → ConsolesCompared xs ys x y
consoles_compared xs ys x y = runs_compared (length xs) xs ys x y (omega arith)
