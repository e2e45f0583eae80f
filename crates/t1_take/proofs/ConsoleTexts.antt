-- The lines of the console, one more at the end.
use Rattle.std.proofs.Common.{◌≡◌, ℕ, zero, suc, ◌+◌, ◌*◌, ◌/◌, ◌%◌, ◌≤◌, ◌++◌, ◌∷◌, List, [], length, take, drop, refl, sym, ap, subst, ◌∙◌, append_assoc, append-nil, arith}
use Rattle.std.proofs.lemmas.List.{take-append-le, drop-append-le, take_all, length-append, length-drop}
use Rattle.t1_log.specs.Hex.{hex_of, hex_of_bytes}
use Rattle.t1_log.specs.Texts.{lines_from, blocks_from}
use Rattle.t1_log.specs.Log.{console_line_of, console_lines_of}
use Rattle.t1_take.specs.declared.cursor.Cursor.{Cursor}
use Rattle.t1_take.specs.Taken.{Reads, Takes}
use Rattle.t1_take.proofs.Taking.{followed, renamed, reads_then}
use Rattle.t1_take.proofs.ListTexts.{lines_last}

pub bytes_last : (bytes : List ℕ) (byte : ℕ) → hex_of_bytes bytes ++ hex_of 2 byte ≡ hex_of_bytes (bytes ++ byte ∷ [])
unfolding hex_of_bytes
bytes_last [] byte = sym (append-nil (hex_of 2 byte))
bytes_last (b ∷ bs) byte = append_assoc (hex_of 2 b) (hex_of_bytes bs) (hex_of 2 byte) ∙ ap (λ r. hex_of 2 b ++ r) (bytes_last bs byte)

pub one_byte : (byte : ℕ) → hex_of 2 byte ≡ hex_of_bytes (byte ∷ [])
unfolding hex_of_bytes
one_byte byte = sym (append-nil (hex_of 2 byte))

blocks_join : (k : ℕ) (bytes bs : List ℕ) → length bytes ≡ 32 * k → length bs ≤ 32 → blocks_from (suc k) (bytes ++ bs) ≡ blocks_from k bytes ++ bs ∷ []
unfolding blocks_from
blocks_join zero [] bs e l = ap (λ b. b ∷ []) (take_all 32 bs l)
blocks_join zero (x ∷ xs) bs e l = absurd (omega (arith, e))
blocks_join (suc k) bytes bs e l =
    let first : take 32 (bytes ++ bs) ≡ take 32 bytes = take-append-le 32 bytes bs (omega (arith, e)) in
    let rest : drop 32 (bytes ++ bs) ≡ drop 32 bytes ++ bs = drop-append-le 32 bytes bs (omega (arith, e)) in
    let fewer : length (drop 32 bytes) ≡ 32 * k = omega (arith, length-drop 32 bytes, e) in
    ap (λ b. b ∷ blocks_from (suc k) (drop 32 (bytes ++ bs))) first
    ∙ ap (λ bl. take 32 bytes ∷ bl) (ap (blocks_from (suc k)) rest ∙ blocks_join k (drop 32 bytes) bs fewer l)

pub unnumbered : (n : ℕ) (bytes : List ℕ) → console_line_of n bytes ≡ console_line_of 0 bytes
unfolding console_line_of
unnumbered n bytes = refl

pub console_more : (bytes bs longer : List ℕ) → length bytes % 32 ≡ 0 → 1 ≤ length bs → length bs ≤ 32 → longer ≡ bytes ++ bs → console_lines_of bytes ++ console_line_of 0 bs ≡ console_lines_of longer
console_more bytes bs longer whole some few is =
    let k : ℕ = length bytes / 32 in
    let count : length bytes ≡ 32 * k = omega (arith, whole) in
    let before : (length bytes + 31) / 32 ≡ k = omega (arith, count) in
    let longer_is : length longer ≡ length bytes + length bs = ap length is ∙ length-append bytes bs in
    let after : (length longer + 31) / 32 ≡ suc k = omega (arith, longer_is, count, some, few) in
    let blocks : blocks_from ((length longer + 31) / 32) longer ≡ blocks_from k bytes ++ bs ∷ [] =
    ap (λ n. blocks_from n longer) after ∙ (ap (blocks_from (suc k)) is ∙ blocks_join k bytes bs count few) in
    ap (λ n. lines_from console_line_of 0 (blocks_from n bytes) ++ console_line_of 0 bs) before
    ∙ (ap (λ l. lines_from console_line_of 0 (blocks_from k bytes) ++ l) (sym (unnumbered (0 + length (blocks_from k bytes)) bs))
    ∙ (sym (lines_last console_line_of 0 (blocks_from k bytes) bs) ∙ ap (lines_from console_line_of 0) (sym blocks)))

pub no_console : (bytes : List ℕ) → bytes ≡ [] → console_lines_of bytes ≡ []
unfolding lines_from blocks_from
no_console bytes e = ap console_lines_of e ∙ refl

pub no_bytes : (text : List ℕ) (a : Cursor) (bytes : List ℕ) → bytes ≡ [] → Takes text a a (hex_of_bytes bytes)
unfolding hex_of_bytes
no_bytes text a bytes e = record { before = λ g. g; reads = λ _. ap (λ bs. hex_of_bytes bs ++ drop a.at text) (sym e) }

pub one_more_byte : (text : List ℕ) (a b c : Cursor) (bytes longer : List ℕ) (byte : ℕ) → Takes text a b (hex_of_bytes bytes) → Takes text b c (hex_of 2 byte) → longer ≡ bytes ++ byte ∷ []
    → Takes text a c (hex_of_bytes longer)
one_more_byte text a b c bytes longer byte x y e = renamed (bytes_last bytes byte ∙ ap hex_of_bytes (sym e)) (followed x y)

pub one_more_run : (text : List ℕ) (start mid end : ℕ) (bytes bs longer : List ℕ) → Reads text start mid (console_lines_of bytes) → length bytes % 32 ≡ 0 → 1 ≤ length bs → length bs ≤ 32
    → Reads text mid end (console_line_of 0 bs) → longer ≡ bytes ++ bs → Reads text start end (console_lines_of longer)
one_more_run text start mid end bytes bs longer before whole some few here is =
    subst (Reads text start end) (console_more bytes bs longer whole some few is) (reads_then text start mid end (console_lines_of bytes) (console_line_of 0 bs) before here)

pub no_run : (text : List ℕ) (at : ℕ) (bytes : List ℕ) → bytes ≡ [] → Reads text at at (console_lines_of bytes)
no_run text at bytes e = ap (λ l. l ++ drop at text) (sym (no_console bytes e))

-- a run that is full keeps whole lines
pub whole_more : (bytes bs longer : List ℕ) (count : ℕ) → length bytes % 32 ≡ 0 → longer ≡ bytes ++ bs → count ≡ length bs → count ≡ 32 → length longer % 32 ≡ 0
whole_more bytes bs longer count whole is n full = omega (arith, ap length is ∙ length-append bytes bs, n, full, whole)
