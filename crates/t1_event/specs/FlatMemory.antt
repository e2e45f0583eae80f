-- One strand on one flat memory, which every access acts on at once.
use Rattle.std.specs.Prelude.{ℕ, ◌≡◌, ◌+◌, ◌≤◌, ◌<◌, ◌^◌, List, [], ◌∷◌, length, if◌then◌else◌, slice_index}
use Rattle.t1_num.specs.Memory.{number_at, with_number_at}
use Rattle.t1_event.specs.declared.item.Item.{Item}
use Rattle.t1_event.specs.Kinds.{is_changing, IsRead, IsAccess}
use Rattle.t1_event.specs.Order.{IsListing, ObeysTso}
use Rattle.t1_event.specs.ProgramOrder.{program_order}

-- the memory after an item
abbrev pub memory_with : List ℕ → Item → List ℕ
memory_with memory item = if is_changing item.kind then with_number_at memory item.addr item.size item.put else memory

-- an access lies in the memory, and a read gets what the memory holds
pub record ActsAt (memory : List ℕ) (item : Item) : Type 0 where
  pub within : IsAccess item.kind → item.addr + item.size ≤ length memory
  pub reads : IsRead item.kind → item.got ≡ number_at memory item.addr item.size

-- items that act, one after another, on a memory
unfoldable pub ActsOn : List ℕ → List Item → Type 0
ActsOn memory [] = Unit {0}
ActsOn memory (item ∷ items) = ActsAt memory item × ActsOn (memory_with memory item) items

-- the memory after these items
unfoldable pub memory_after : List ℕ → List Item → List ℕ
memory_after memory [] = memory
memory_after memory (item ∷ items) = memory_after (memory_with memory item) items

-- a memory of bytes that ends below I/O space
pub record IsMemory (memory : List ℕ) : Type 0 where
  pub bytes : (addr : ℕ) → slice_index memory addr < 256
  pub below_io : length memory < 2 ^ 39

-- the program order of one strand on one flat memory is a memory order and obeys total store order
abbrev pub OneStrandObeysTso : Type 0
OneStrandObeysTso =
    (image : List ℕ) (items : List Item) → IsMemory image → ActsOn image items
    → IsListing (items ∷ []) (program_order 0 items) × ObeysTso image (items ∷ []) (program_order 0 items)
