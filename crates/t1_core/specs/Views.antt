-- What is seen of an instruction cache of either layout.
use Rattle.t1_l1.specs.Cache.{CacheState}
use Rattle.t1_core.specs.declared.insn_cache.Kind.{Kind}
use Rattle.t1_core.specs.declared.insn_cache.Kind.TheVariants.{Four, Eight}

abbrev pub state_of : Kind → CacheState
state_of (Four cache) = cache
state_of (Eight cache) = cache
