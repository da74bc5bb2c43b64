-- Demand 3, whole: it holds of the planner that the definitions are.
use Rattle.ledger.specs.Planner.{planner}
use Rattle.ledger.specs.Claim.{Demand3}
use Rattle.ledger.specs.Laws.Demand.{selects-same, selection-holds, builds-some}
use Rattle.ledger.proofs.Run.{claim-holds}

pub demand-3 : Demand3 planner
demand-3 = record { selects = selects-same; selection = selection-holds; builds = builds-some; calls = claim-holds }
