-- An access that evicts nothing and writes nothing looks for no copy.
use Rattle.std.specs.Option.{is_some}
use Rattle.std.proofs.lemmas.Bool.{cases_eq, eq-eqb, ne_eqb}
use Rattle.std.proofs.Common.{◌≡◌, ◌∷◌, Some, true, false, sym, inl, inr, ℕ, zero, suc, ◌++◌, [], ◌==◌, Bool, List, Option, None, refl, ap, ◌∙◌}
use Rattle.t1_bank.specs.Copies.{copies_below, copies_of, copy_at, doomed_data, doomed_insn}
use Rattle.t1_dir.specs.Directory.{DirectoryState, IsHidden, IsHiddenBut, tags_at}
use Rattle.t1_packet.specs.Caches.{layout, line_of}
use Rattle.t1_packet.specs.Data.{KillData}
use Rattle.t1_packet.specs.declared.cache.Cache.{Cache}
use Rattle.t1_packet.specs.declared.cache.Cache.TheVariants.{Dcache, Icache}
use Rattle.t1_packet.specs.declared.op.Op.{Op}
use Rattle.t1_packet.specs.declared.op.Op.TheVariants.{Cas, Fetch, Load, Store, Swap}
use Rattle.t1_shape.specs.Slots.{slot_of}

abbrev pub IsIdle : Op → Type 0
IsIdle (Fetch addr way) = Unit {0}
IsIdle (Load addr size way) = Unit {0}
IsIdle (Cas addr size expect new) = Unit {0}
IsIdle (Store addr size value) = ⊥
IsIdle (Swap addr size new) = ⊥

none_below : (d : DirectoryState) (own : ℕ) (op : Op) (cores : ℕ) → ((o : Bool) → doomed_data o None op ≡ []) → doomed_insn None op ≡ []
    → copies_below d own None op cores ≡ []
none_below d own op zero dd di = refl
none_below d own op (suc core) dd di =
    let data' : List KillData = copies_of d core Dcache (doomed_data (own == core) None op) in
    ap (λ (ks : List KillData). ks ++ data' ++ copies_of d core Icache (doomed_insn None op)) (none_below d own op core dd di)
    ∙ (ap (λ (addrs : List ℕ). [] ++ copies_of d core Dcache addrs ++ copies_of d core Icache (doomed_insn None op)) (dd (own == core))
    ∙ ap (λ (addrs : List ℕ). copies_of d core Icache addrs) di)

pub idle_below : (d : DirectoryState) (own : ℕ) (op : Op) (cores : ℕ) → IsIdle op → copies_below d own None op cores ≡ []
idle_below d own (Fetch addr way) cores i = none_below d own (Fetch addr way) cores (λ o. refl) refl
idle_below d own (Load addr size way) cores i = none_below d own (Load addr size way) cores (λ o. refl) refl
idle_below d own (Cas addr size expect new) cores i = none_below d own (Cas addr size expect new) cores (λ o. refl) refl
idle_below d own (Store addr size value) cores i = absurd i
idle_below d own (Swap addr size new) cores i = absurd i

-- a look-up that finds nothing
nothing_at : (d : DirectoryState) (core : ℕ) (cache : Cache) (addr : ℕ) → slot_of (layout d.shape cache) (tags_at d core cache) (line_of cache addr) ≡ None
    → copies_of d core cache (addr ∷ []) ≡ []
nothing_at d core cache addr e = ap (λ (o : Option ℕ). copy_at d.shape core cache o ++ []) e

store_data : (d : DirectoryState) (own core addr size value : ℕ) → IsHiddenBut d own Dcache (line_of Dcache addr)
    → copies_of d core Dcache (doomed_data (own == core) None (Store addr size value)) ≡ []
store_data d own core addr size value h =
    elim (cases_eq core own) [
      | inl e ↦ let t : (own == core) ≡ true = eq-eqb own core (sym e) in ap (λ (b : Bool). copies_of d core Dcache (doomed_data b None (Store addr size value))) t
      | inr ne ↦
          let t : (own == core) ≡ false = ne_eqb own core (λ e. ne (sym e)) in
          ap (λ (b : Bool). copies_of d core Dcache (doomed_data b None (Store addr size value))) t ∙ nothing_at d core Dcache addr (h core ne)
    ]

store_below : (d : DirectoryState) (own addr size value cores : ℕ) → IsHiddenBut d own Dcache (line_of Dcache addr) → IsHidden d Icache (line_of Icache addr)
    → copies_below d own None (Store addr size value) cores ≡ []
store_below d own addr size value zero h i = refl
store_below d own addr size value (suc core) h i =
    ap (λ (ks : List KillData). ks ++ copies_of d core Dcache (doomed_data (own == core) None (Store addr size value)) ++ copies_of d core Icache (addr ∷ [])) (store_below d own addr size value core h i)
    ∙ (ap (λ (ks : List KillData). [] ++ ks ++ copies_of d core Icache (addr ∷ [])) (store_data d own core addr size value h)
    ∙ nothing_at d core Icache addr (i core))

swap_below : (d : DirectoryState) (own addr size new cores : ℕ) → IsHidden d Dcache (line_of Dcache addr) → IsHidden d Icache (line_of Icache addr)
    → copies_below d own None (Swap addr size new) cores ≡ []
swap_below d own addr size new zero h i = refl
swap_below d own addr size new (suc core) h i =
    ap (λ (ks : List KillData). ks ++ copies_of d core Dcache (addr ∷ []) ++ copies_of d core Icache (addr ∷ [])) (swap_below d own addr size new core h i)
    ∙ (ap (λ (ks : List KillData). [] ++ ks ++ copies_of d core Icache (addr ∷ [])) (nothing_at d core Dcache addr (h core))
    ∙ nothing_at d core Icache addr (i core))

-- ---- by what was asked

pub idle : (op : Op) → IsIdle op → (v : Option ℕ) → is_some v ≡ false → (d : DirectoryState) (own cores : ℕ) → copies_below d own v op cores ≡ []
idle op i None e d own cores = idle_below d own op cores i
idle op i (Some x) e d own cores = cc

pub store_idle : (addr size value : ℕ) (v : Option ℕ) → is_some v ≡ false → (d : DirectoryState) (own cores : ℕ) → IsHiddenBut d own Dcache (line_of Dcache addr) → IsHidden d Icache (line_of Icache addr)
    → copies_below d own v (Store addr size value) cores ≡ []
store_idle addr size value None e d own cores h i = store_below d own addr size value cores h i
store_idle addr size value (Some x) e d own cores h i = cc

pub swap_idle : (addr size new : ℕ) (v : Option ℕ) → is_some v ≡ false → (d : DirectoryState) (own cores : ℕ) → IsHidden d Dcache (line_of Dcache addr) → IsHidden d Icache (line_of Icache addr)
    → copies_below d own v (Swap addr size new) cores ≡ []
swap_idle addr size new None e d own cores h i = swap_below d own addr size new cores h i
swap_idle addr size new (Some x) e d own cores h i = cc
