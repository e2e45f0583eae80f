-- Kinds of items.
use Rattle.std.specs.Prelude.{Bool, true, false, IsTrue}
use Rattle.t1_event.specs.declared.item.ItemKind.{ItemKind}
use Rattle.t1_event.specs.declared.item.ItemKind.TheVariants.{Fetch, Load, Store, Atomic, Membar, Flush}

-- a fetch, a load or an atomic
abbrev pub is_read : ItemKind → Bool
is_read Fetch = true
is_read Load = true
is_read (Atomic wrote) = true
is_read Store = false
is_read Membar = false
is_read Flush = false

-- a store or an atomic
abbrev pub is_write : ItemKind → Bool
is_write Store = true
is_write (Atomic wrote) = true
is_write Fetch = false
is_write Load = false
is_write Membar = false
is_write Flush = false

-- an item that is no membar and no flush
abbrev pub is_access : ItemKind → Bool
is_access Membar = false
is_access Flush = false
is_access Fetch = true
is_access Load = true
is_access Store = true
is_access (Atomic wrote) = true

-- a store, or an atomic that wrote
abbrev pub is_changing : ItemKind → Bool
is_changing Store = true
is_changing (Atomic wrote) = wrote
is_changing Fetch = false
is_changing Load = false
is_changing Membar = false
is_changing Flush = false

abbrev pub IsRead : ItemKind → Type 0
IsRead kind = IsTrue (is_read kind)

abbrev pub IsWrite : ItemKind → Type 0
IsWrite kind = IsTrue (is_write kind)

abbrev pub IsAccess : ItemKind → Type 0
IsAccess kind = IsTrue (is_access kind)

abbrev pub IsChanging : ItemKind → Type 0
IsChanging kind = IsTrue (is_changing kind)
