-- The start of a bank.
use Rattle.std.proofs.Common.{refl, ap, sym, ◌∙◌, ◌*◌, ◌≡◌, ℕ, ◌/◌, ◌%◌, ◌^◌, ◌<◌, ◌≤◌, List, [], length, get_or, replicate, Option, Some, None, arith, zero, suc}
use Rattle.std.proofs.lemmas.List.{length-replicate}
use Rattle.t1_bank.specs.Sound.{IsSound}
use Rattle.t1_dir.specs.Directory.{directory_start, no_tags, tags_at}
use Rattle.t1_event.specs.BankRule.{bank_start}
use Rattle.t1_l2.proofs.Kept.{length-lines_of_bank, start_kept}
use Rattle.t1_l2.specs.Array.{lines_of_bank}
use Rattle.t1_packet.specs.Caches.{layout}
use Rattle.t1_packet.specs.declared.cache.Cache.{Cache}
use Rattle.t1_packet.specs.declared.cache.Cache.TheVariants.{Dcache, Icache}
use Rattle.t1_shape.proofs.Numbers.{place_small, ram_splits}
use Rattle.t1_shape.proofs.Once.{none_at}
use Rattle.t1_shape.specs.Numbers.{banks, most_l2_sets}
use Rattle.t1_shape.specs.Shapes.{Shape}
use Rattle.t1_shape.specs.Slots.{slots_in}

empty_tags : (shape : Shape) (cache : Cache) (k l : ℕ) → get_or (no_tags shape cache) k None ≡ Some l → ⊥
unfolding no_tags
empty_tags shape cache k l e = none_at (slots_in (layout shape cache)) k l e

empty_rows : (tags : List (Option ℕ)) → ((k l : ℕ) → get_or tags k None ≡ Some l → ⊥) → (n core k l : ℕ) → get_or (get_or (replicate n tags) core []) k None ≡ Some l → ⊥
empty_rows tags none zero core k l e = let clash : ◌≡◌ {A = Option ℕ} None (Some l) = e in cc
empty_rows tags none (suc n) zero k l e = none k l e
empty_rows tags none (suc n) (suc core) k l e = empty_rows tags none n core k l e

nothing_shown : (shape : Shape) (n core : ℕ) (cache : Cache) (k l : ℕ) → get_or (tags_at (directory_start shape n) core cache) k None ≡ Some l → ⊥
nothing_shown shape n core Dcache k l e = empty_rows (no_tags shape Dcache) (empty_tags shape Dcache) n core k l e
nothing_shown shape n core Icache k l e = empty_rows (no_tags shape Icache) (empty_tags shape Icache) n core k l e

rows : (tags : List (Option ℕ)) (n c : ℕ) → c < n → c < length (replicate n tags)
rows tags n c l = let e = length-replicate {A = List (Option ℕ)} n tags in omega (arith, e, l)

pub start_sound : (shape : Shape) (b cores n : ℕ) (image : List ℕ) → b < banks shape → cores ≤ 8 → 0 < n → n ≤ most_l2_sets shape → length image % 65536 ≡ 0 → length image ≤ 2 ^ 28 → IsSound (bank_start shape b cores n image)
start_sound shape b cores n image lb lc some few even small =
    let count : length (lines_of_bank shape b image (length image / 64 / banks shape)) ≡ length image / 64 / banks shape = length-lines_of_bank shape b image (length image / 64 / banks shape) in
    record {
      few = omega (arith, lc);
      small = small;
      shapes = refl;
      whole = ram_splits shape (length image) even ∙ ap (λ (n : ℕ). 64 * (banks shape * n)) (sym count);
      core = λ c l. record {
        dcache = rows (no_tags shape Dcache) cores c l;
        icache = rows (no_tags shape Icache) cores c l;
      };
      once = λ c cache. record {
        own = λ k l e. absurd (nothing_shown shape cores c cache k l e);
        once = λ i k l e f. absurd (nothing_shown shape cores c cache i l e);
      };
      inside = λ c cache k l low e. absurd (nothing_shown shape cores c cache k l e);
      array = start_kept shape b n (length (lines_of_bank shape b image (length image / 64 / banks shape))) lb some few (let p = place_small shape (length image) small in omega (arith, count, p));
    }
