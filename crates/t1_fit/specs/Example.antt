-- A small run that fits: one core of one strand, over a memory of zeros, whose budget is one unit. It
-- fetches the word at address 0 from the bank of that address, and takes the trap of an illegal
-- instruction.
use Rattle.std.specs.Prelude.{ℕ, zero, suc, false, List, [], ◌∷◌, replicate, Some}
use Rattle.t1_num.specs.declared.chip.ChipKind.TheVariants.{T1, T2}
use Rattle.t1_state.specs.declared.strand.Strand.{Strand}
use Rattle.t1_state.specs.Traps.{in_handler}
use Rattle.t1_packet.specs.declared.op.Op.TheVariants.{Fetch}
use Rattle.t1_packet.specs.declared.served.Served.{Served}
use Rattle.t1_packet.specs.Data.{RequestData}
use Rattle.t1_event.specs.declared.item.Item.{Item}
use Rattle.t1_event.specs.declared.item.How.TheVariants.{Commit}
use Rattle.t1_event.specs.declared.trace.Trace.{Trace}
use Rattle.t1_event.specs.declared.trace.Ending.TheVariants.{Spent}
use Rattle.t1_event.specs.declared.report.Place.{Place}
use Rattle.t1_event.specs.Items.{fetch_item}
use Rattle.t1_event.specs.BankRule.{served_by}
use Rattle.t1_joint.specs.Start.{Setup, start_in}
use Rattle.t1_joint.specs.Parts.{Ended, CorePart, DestinationPart, Parts, posts_from}
use Rattle.t1_joint.specs.Fit.{destination_start, log_of}

-- opaque, as so many bytes that a goal computes stop a check
unfoldable pub zeros : List ℕ
zeros = replicate 65536 0

abbrev pub example_setup : Setup
example_setup = record {
  config = record { chip = T1; hyper = false; cores = 1; strands = 1; ram = 65536; sets = 1; budget = 1 };
  image = record { entry = 0; ram = zeros };
}

-- ---- the one access

abbrev pub asked : RequestData
asked = record { core = 0; strand = 0; item = 0; seen = 0; op = Fetch 0 0 }

unfoldable pub fetched : Served
fetched = served_by (destination_start example_setup 0) asked

-- ---- the strand

abbrev pub first_state : Strand
first_state = start_in example_setup.config 0 0

abbrev pub illegal_instruction : ℕ
illegal_instruction = 0x010

abbrev pub last_state : Strand
last_state = in_handler first_state illegal_instruction

abbrev pub fetch_placed : Item
fetch_placed = record (fetch_item 0 0) { how = Commit 0 0 }

abbrev pub example_trace : Trace
example_trace = record { items = fetch_placed ∷ []; units = last_state.units; pc = last_state.pc; ending = Some Spent }

-- ---- the parts

-- a list at number 0, and none elsewhere
abbrev pub at_zero : {A : Type 0} → List A → ℕ → List A
at_zero xs zero = xs
at_zero xs (suc n) = []

abbrev pub asking_core : CorePart
asking_core = record {
  traces = example_trace ∷ [];
  state = λ s. last_state;
  standing = λ s. Ended Spent;
  waiting = λ s. [];
  sending = λ s. [];
  received = posts_from 0 0 (fetched ∷ []);
  sent = at_zero (asked ∷ []);
}

abbrev pub no_core : CorePart
no_core = record {
  traces = [];
  state = λ s. last_state;
  standing = λ s. Ended Spent;
  waiting = λ s. [];
  sending = λ s. [];
  received = [];
  sent = λ d. [];
}

abbrev pub core_part : ℕ → CorePart
core_part zero = asking_core
core_part (suc n) = no_core

abbrev pub destination_part : ℕ → DestinationPart
destination_part zero = record { received = at_zero (asked ∷ []); served = fetched ∷ [] }
destination_part (suc n) = record { received = λ c. []; served = [] }

abbrev pub example_parts : Parts
example_parts = record {
  core = core_part;
  destination = destination_part;
  crossbar = record {
    received = at_zero (fetched ∷ []);
    admitted = fetched ∷ [];
    log = log_of example_setup (fetched ∷ []);
    posted = λ c. posts_from c 0 (fetched ∷ []);
  };
}

abbrev pub example_order : List Place
example_order = record { strand = 0; item = 0 } ∷ []
