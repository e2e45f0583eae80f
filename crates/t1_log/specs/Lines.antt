-- The lines of a log. Each ends with its line feed.
use Rattle.std.specs.Prelude.{ℕ, ◌*◌, Bool, true, false, not, ◌&&◌, List, [], ◌++◌, codes, decimal, if◌then◌else◌, Some, None}
use Rattle.t1_num.specs.declared.chip.ChipKind.{ChipKind}
use Rattle.t1_num.specs.declared.chip.ChipKind.TheVariants.{T1, T2}
use Rattle.t1_event.specs.declared.item.Item.{Item}
use Rattle.t1_event.specs.declared.item.ItemKind.{ItemKind}
use Rattle.t1_event.specs.declared.item.ItemKind.TheVariants.{Fetch, Load, Store, Atomic, Membar, Flush}
use Rattle.t1_event.specs.declared.report.Config.{Config}
use Rattle.t1_event.specs.declared.report.Place.{Place}
use Rattle.t1_event.specs.declared.trace.Ending.{Ending}
use Rattle.t1_event.specs.declared.trace.Ending.TheVariants.{Halted, Fault, Spent}
use Rattle.t1_event.specs.declared.trace.Trace.{Trace}
use Rattle.t1_event.specs.Kinds.{is_read, is_changing}
use Rattle.t1_log.specs.Hex.{hex_of, hex_of_bytes}

abbrev pub is_t1 : ChipKind → Bool
is_t1 T1 = true
is_t1 T2 = false

-- a machine that version 1 of the log can name: OpenSPARC T1, with no hyperprivileged mode
abbrev pub is_first : Config → Bool
is_first config = is_t1 config.chip && not config.hyper

-- the machine of the run, in version 1
unfoldable pub config_line_of : Config → List ℕ
config_line_of config =
    codes "config cores " ++ (decimal config.cores ++ (codes " strands " ++ (decimal config.strands
    ++ (codes " ram " ++ (decimal config.ram ++ (codes " sets " ++ (decimal config.sets
    ++ (codes " budget " ++ (decimal config.budget ++ codes "\n")))))))))

-- where every strand starts
unfoldable pub entry_line_of : ℕ → List ℕ
entry_line_of entry = codes "entry " ++ (hex_of 10 entry ++ codes "\n")

-- a block of the image: its address and its bytes
unfoldable pub block_line_of : ℕ → List ℕ → List ℕ
block_line_of addr block = codes "m " ++ (hex_of 10 addr ++ (codes " " ++ (hex_of_bytes block ++ codes "\n")))

-- the value that an access got, or a dash where it reads nothing
unfoldable pub got_of : Item → List ℕ
got_of item = if is_read item.kind then hex_of (2 * item.size) item.got else codes "-"

-- the value that an access put, or a dash where it writes nothing
unfoldable pub put_of : Item → List ℕ
put_of item = if is_changing item.kind then hex_of (2 * item.size) item.put else codes "-"

-- the address of an access, its size, and its values
unfoldable pub access_fields_of : Item → List ℕ
access_fields_of item =
    hex_of 10 item.addr ++ (codes " " ++ (decimal item.size ++ (codes " " ++ (got_of item ++ (codes " " ++ put_of item)))))

-- the kind of an item, and the fields of that kind
unfoldable pub fields_of_kind : ItemKind → Item → List ℕ
fields_of_kind Fetch item = codes "fetch " ++ access_fields_of item
fields_of_kind Load item = codes "load " ++ access_fields_of item
fields_of_kind Store item = codes "store " ++ access_fields_of item
fields_of_kind (Atomic wrote) item = codes "atomic " ++ access_fields_of item
fields_of_kind Membar item = codes "membar " ++ hex_of 2 item.size
fields_of_kind Flush item = codes "flush"

abbrev pub item_fields_of : Item → List ℕ
item_fields_of item = fields_of_kind item.kind item

-- how a strand ended, its units and its PC, and the type of its last trap
unfoldable pub ending_fields_of : Ending → ℕ → ℕ → List ℕ
ending_fields_of Halted units pc = codes "halted " ++ (decimal units ++ (codes " " ++ hex_of 16 pc))
ending_fields_of Spent units pc = codes "spent " ++ (decimal units ++ (codes " " ++ hex_of 16 pc))
ending_fields_of (Fault number) units pc =
    codes "fault " ++ (decimal units ++ (codes " " ++ (hex_of 16 pc ++ (codes " " ++ hex_of 3 number))))

-- the end of a strand
unfoldable pub ending_line_of : ℕ → Ending → ℕ → ℕ → List ℕ
ending_line_of strand ending units pc = codes "e " ++ (decimal strand ++ (codes " " ++ (ending_fields_of ending units pc ++ codes "\n")))

-- the line of its end, where it has ended
abbrev pub last_line_of : ℕ → Trace → List ℕ
last_line_of strand trace = elim trace.ending [ None ↦ [] | Some ending ↦ ending_line_of strand ending trace.units trace.pc ]

-- a place of the memory order
unfoldable pub place_line_of : Place → List ℕ
place_line_of place = codes "o " ++ (decimal place.strand ++ (codes " " ++ (decimal place.item ++ codes "\n")))

abbrev pub end_line : List ℕ
end_line = codes "end\n"
