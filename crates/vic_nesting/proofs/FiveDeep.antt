-- Five requests are in service at once and are ended again, by computation. Assumes nothing.
use mathlib.Core.Path.{refl}
use mathlib.Core.Bool.{true}
use mathlib.Core.List.{[], ◌∷◌}
use Rattle.first_where.specs.First.{first_where}
use Rattle.vic_registers.specs.Access.{slot_at, slot_of, register_at}
use Rattle.vic_rank.specs.Rank.{names, rank_in, lowest_among}
use Rattle.vic_pair.specs.declared.Which.TheVariants.{Vic0, Vic1}
use Rattle.vic_pair.specs.Vics.{levels, with_line}
use Rattle.vic_answer.specs.Answer.{raised_rank, vector_at}
use Rattle.vic.specs.Access.{read_vector, write_vector, read, write}
use Rattle.vic_nesting.specs.Nested.{take, end, none, served}
use Rattle.vic_nesting.specs.Deep.{FiveDeep}

pub five_deep : FiveDeep
unfolding first_where slot_at slot_of register_at names rank_in lowest_among with_line raised_rank vector_at read_vector write_vector read write
five_deep =
    record {
      taken = refl;
      ended = refl;
      nested = served _ (levels 0 0x0080) Vic1 0
          (take (levels 0 0x0088)
          ∷ take (levels 0x0200 0x0088)
          ∷ take (levels 0x0210 0x0088)
          ∷ take (with_line (levels 0x0210 0x0088) true)
          ∷ end Vic0 0
          ∷ end Vic0 0
          ∷ end Vic0 0
          ∷ end Vic1 0
          ∷ [])
          [] refl refl
          (served _ (levels 0 0x0088) Vic1 0
          (take (levels 0x0200 0x0088)
          ∷ take (levels 0x0210 0x0088)
          ∷ take (with_line (levels 0x0210 0x0088) true)
          ∷ end Vic0 0
          ∷ end Vic0 0
          ∷ end Vic0 0
          ∷ [])
          [] refl refl
          (served _ (levels 0x0200 0x0088) Vic0 0
          (take (levels 0x0210 0x0088) ∷ take (with_line (levels 0x0210 0x0088) true) ∷ end Vic0 0 ∷ end Vic0 0 ∷ [])
          [] refl refl
          (served _ (levels 0x0210 0x0088) Vic0 0
          (take (with_line (levels 0x0210 0x0088) true) ∷ end Vic0 0 ∷ [])
          [] refl refl
          (served _ (with_line (levels 0x0210 0x0088) true) Vic0 0 [] [] refl refl (none _) (none _))
          (none _))
          (none _))
          (none _))
          (none _);
    }
