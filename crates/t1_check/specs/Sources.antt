-- The write from which a byte of a read should come, by its position.
use Rattle.std.specs.Prelude.{ℕ, suc, zero, ◌≡◌, ◌<◌, ◌+◌, ◌*◌, ◌/◌, ◌%◌, ◌-◌, ◌&&◌, max, List, [], length, slice_index, Bool, if◌then◌else◌}
use Rattle.std.proofs.Common.{get_or}
use Rattle.t1_num.specs.Memory.{byte_of}
use Rattle.t1_event.specs.declared.item.Item.{Item}
use Rattle.t1_event.specs.declared.item.ItemKind.{ItemKind}
use Rattle.t1_event.specs.declared.report.Place.{Place}
use Rattle.t1_event.specs.Kinds.{is_changing}
use Rattle.t1_check.specs.declared.latest.Latest.{Latest}
use Rattle.t1_check.specs.Latest.{at, covers}
use Rattle.t1_check.specs.Bounds.{is_fetch}
use Rattle.t1_check.specs.Positions.{no_place, item_of, item_in}
use Rattle.t1_check.specs.Table.{cell}

abbrev pub writes_byte : Item → ℕ → Bool
writes_byte item addr = is_changing item.kind && covers item.addr item.size addr

-- the greatest position of a write of a byte among the first items
unfoldable pub peak : (ℕ → Item) → (ℕ → ℕ) → ℕ → ℕ → ℕ
peak item position zero addr = 0
peak item position (suc n) addr = if writes_byte (item n) addr then max (peak item position n addr) (position n) else peak item position n addr

-- among the first lines of the order
abbrev pub seen_at : List (List Item) → List Place → ℕ → ℕ → ℕ
seen_at traces order line addr = peak (item_in traces order) (λ k. suc k) line addr

-- among the first items of a strand
abbrev pub own_at : List Item → List ℕ → ℕ → ℕ → ℕ
own_at items row n addr = peak (item_of items) (λ k. get_or row k 0) n addr

-- of the greatest position seen in the order and the greatest own one, which a fetch does not see
abbrev pub source_of : ItemKind → ℕ → ℕ → ℕ
source_of kind seen own = if is_fetch kind then seen else max seen own

-- of a byte of the read on a line; 0 is the image
abbrev pub source_at : List (List Item) → List Place → List (List ℕ) → ℕ → ℕ → ℕ
source_at traces order table line addr =
    let p = get_or order line no_place in
    source_of (item_in traces order line).kind (seen_at traces order line addr) (own_at (get_or traces p.strand []) (get_or table p.strand []) p.item addr)

-- the byte that a source gives
abbrev pub byte_from : List ℕ → List (List Item) → List Place → ℕ → ℕ → ℕ
byte_from image traces order zero addr = slice_index image addr
byte_from image traces order (suc line) addr = let write = item_in traces order line in byte_of write.put write.size (addr - write.addr)

-- eight numbers an item: for each byte of its word the greatest position of an earlier write of its strand
abbrev pub AreOwn : List Item → List ℕ → List ℕ → ℕ → Type 0
AreOwn items row own n = (i byte : ℕ) → i < n → byte < 8 → get_or own (8 * i + byte) 0 ≡ own_at items row i (8 * ((item_of items i).addr / 8) + byte)

abbrev pub OwnBelow : List (List Item) → List (List ℕ) → List (List ℕ) → ℕ → Type 0
OwnBelow traces table own n = (strand : ℕ) → strand < n → AreOwn (get_or traces strand []) (get_or table strand []) (get_or own strand []) (length (get_or traces strand []))

-- what is kept of positions gives the sources of what stands on a line
abbrev pub SourcesAre : List (List Item) → List Place → List (List ℕ) → Latest → List (List ℕ) → ℕ → Type 0
SourcesAre traces order own latest table line =
    (offset : ℕ) → offset < (item_in traces order line).size
    → source_of (item_in traces order line).kind (at latest ((item_in traces order line).addr + offset))
    (cell own (get_or order line no_place).strand (8 * (get_or order line no_place).item + ((item_in traces order line).addr + offset) % 8))
    ≡ source_at traces order table line ((item_in traces order line).addr + offset)
