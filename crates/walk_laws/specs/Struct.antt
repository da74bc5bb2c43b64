-- The machine value of a struct that a call has answered.
use Rattle.std.specs.Prelude.{◌≡◌, [], ◌∷◌}
use Rattle.std.proofs.Common.{ap}
use mir.Val.{Val}
use denote.Laws.{Is}
use denote.Steps.{only}
use denote.Struct.Declared.{Declared, row}
use denote.Struct.Laws as LL
use denote.Struct.Laws.{Laws}

module _ (T : Declared) (L : Laws T) where
  pub val_of : (r : T.D) (v : Val) → Is (row T) r (v ∷ []) → v ≡ LL.val T L r
  val_of r v g = ap only (LL.tells T L r (v ∷ []) g)

  pub is_of : (r : T.D) (v : Val) → Is (row T) r (v ∷ []) → Is (row T) r (LL.val T L r ∷ [])
  is_of r v g = LL.owes T L r (LL.owed T L r (v ∷ []) g)
