-- The limits of a machine that a log can name.
use Rattle.std.specs.Prelude.{ℕ, ◌*◌, ◌%◌, ◌==◌, ◌&&◌, ◌||◌, nat_le, Bool}
use Rattle.t1_event.specs.declared.report.Config.{Config}
use Rattle.t1_log.specs.Lines.{is_first}

-- a power of two up to 1024
unfoldable pub is_set_count : ℕ → Bool
is_set_count n =
    (n == 1) || ((n == 2) || ((n == 4) || ((n == 8) || ((n == 16) || ((n == 32) || ((n == 64) || ((n == 128) || ((n == 256) || ((n == 512) || (n == 1024))))))))))

-- 64 KiB to 256 MiB in steps of 64 KiB
abbrev pub is_ram : ℕ → Bool
is_ram ram = nat_le 65536 ram && (nat_le ram 268435456 && (ram % 65536 == 0))

-- at most 1,000,000 units of all strands
abbrev pub is_budget : ℕ → ℕ → Bool
is_budget budget strands = nat_le 1 budget && (nat_le budget 1000000 && nat_le (budget * strands) 1000000)

-- a machine that version 1 can name, of 1 to 8 cores of 1 to 4 strands
abbrev pub is_in_limits : Config → Bool
is_in_limits config =
    is_first config
    && ((nat_le 1 config.cores && nat_le config.cores 8)
    && ((nat_le 1 config.strands && nat_le config.strands 4)
    && (is_ram config.ram && (is_set_count config.sets && is_budget config.budget (config.cores * config.strands)))))
