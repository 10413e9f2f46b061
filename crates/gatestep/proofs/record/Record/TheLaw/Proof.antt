-- A `&` to a record holds nothing.
use denote.Param.Shared.{copy_shared}
use denote.SharingLaws.{nothing_shr_laws}
use denote.Struct.Field.{unit-field}
use denote.Struct.Laws.{unit-copy}
use denote.Struct.Lending.{of_Lends, Lends-nothing}
use Rattle.gatestep.specs.contracts.record.Record as C
use Rattle.gatestep.proofs.record.Record.TheLaw.Statement.{statement}

pub shares : statement
shares =
    of_Lends C.struct C.the_codes C.the_heap C.the_lent (λ d p. nothing_shr_laws)
    (copy_shared unit-field unit-copy, tt) (λ M 𝓤 𝓛 d p. Lends-nothing 𝓛 (C.the_heap d) C.the_row.lives)
