-- A word of which each destination's bit is set.
use Rattle.std.proofs.Common.{zero, suc, refl, arith}
use Rattle.t1_core_idle.specs.Laws.{WordsCanHaveAllRoom}

pub words_can_have_all_room : WordsCanHaveAllRoom
words_can_have_all_room zero l = refl
words_can_have_all_room (suc zero) l = refl
words_can_have_all_room (suc (suc zero)) l = refl
words_can_have_all_room (suc (suc (suc zero))) l = refl
words_can_have_all_room (suc (suc (suc (suc zero)))) l = refl
words_can_have_all_room (suc (suc (suc (suc (suc (zero)))))) l = refl
words_can_have_all_room (suc (suc (suc (suc (suc (suc (zero))))))) l = refl
words_can_have_all_room (suc (suc (suc (suc (suc (suc (suc (zero)))))))) l = refl
words_can_have_all_room (suc (suc (suc (suc (suc (suc (suc (suc (zero))))))))) l = refl
words_can_have_all_room (suc (suc (suc (suc (suc (suc (suc (suc (suc (dest)))))))))) l = absurd (omega (arith, l))
