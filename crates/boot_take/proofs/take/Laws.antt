-- Laws of the loop over the nodes: where it begins, a turn, and each way that it ends.
use Rattle.std.proofs.Common.{ℕ, ◌+◌, ◌-◌, ◌≤◌, ◌<◌, ◌≡◌, sym, ap, ◌∙◌, length-take, List, [], ◌++◌, length, take, arith, Option, Some, None}
use Rattle.std.proofs.lemmas.List.{take_all, take-append-le}
use Rattle.memory_range.specs.declared.range.TaggedRange.{TaggedRange}
use Rattle.refusal.specs.declared.Refusal.{Refusal}
use Rattle.boot_nodes.specs.Node.{count_up}
use Rattle.refusal.specs.Answer.{rows_as}
use Rattle.boot_ram.specs.Verdict.{Verdict, Judged, judged}
use Rattle.boot_ram.specs.Laws.Verdict.{so_far, held_with, held-none, held_append, held_refused}
use Rattle.boot_take.specs.Take.{need_on, take_on, take_all_of, taking}
use Rattle.boot_take.specs.Laws.TakeSteps.{count_next, count_none}

-- the nodes below `node` have taken: the answer is that of the rest, and the file's pieces stand where they stood
pub record Taking (share n : ℕ) (free pieces chosen : List TaggedRange) (node : ℕ) : Type 0 where
  pub within : node ≤ n
  pub file : take (length pieces) chosen ≡ pieces
  pub answer : so_far [] pieces (take_all_of share pieces free (count_up 0 n)) ≡ so_far [] chosen (take_all_of share pieces free (count_up node (n - node)))

pub taking_begins : (share n : ℕ) (free pieces : List TaggedRange) → Taking share n free pieces pieces 0
taking_begins share n free pieces =
    record {
      within = omega arith;
      file = take_all (length pieces) pieces (omega arith);
      answer = let g : n - 0 ≡ n = omega arith in rw g;
    }

module _ {share n : ℕ} {free pieces chosen : List TaggedRange} {node : ℕ} (k : Taking share n free pieces chosen node) where
  module _ {need : ℕ} (h : node < n) (e : need ≡ need_on share (take (length pieces) chosen) node) where
    -- what the node takes, and then the nodes behind it
    abbrev rest : List Verdict
    rest = take_all_of share pieces free (count_up (node + 1) (n - (node + 1)))

    turn : so_far [] pieces (take_all_of share pieces free (count_up 0 n)) ≡ so_far [] chosen (take_on node need free ++ rest)
    turn = k.answer ∙ rw (count_next node n h, ← (rw k.file at e))

    pub taking_refused : {r : Refusal} {gs cs : List TaggedRange} → so_far [] chosen (take_on node need free) ≡ held_with (Some r) gs cs
        → so_far [] pieces (take_all_of share pieces free (count_up 0 n)) ≡ held_with (Some r) gs cs
    taking_refused g = turn ∙ held_refused [] chosen (take_on node need free) rest g

    pub taking_more : {cs : List TaggedRange} → so_far [] chosen (take_on node need free) ≡ held_with None [] cs → Taking share n free pieces cs (node + 1)
    taking_more {cs} g =
        let more = (judged 0 (length chosen) (take_on node need free)).chosen in
        let c : chosen ++ more ≡ cs = ap (λ (j : Judged). j.chosen) g in
        record {
          within = omega arith;
          file = rw (← c, take-append-le (length pieces) chosen more (omega (arith, ap length k.file, length-take (length pieces) chosen))) k.file;
          answer = turn ∙ held_append [] chosen (take_on node need free) rest g;
        }

  pub taking_done : n ≤ node → so_far [] pieces (take_all_of share pieces free (count_up 0 n)) ≡ held_with None [] chosen
  taking_done h = k.answer ∙ held-none [] chosen (ap (take_all_of share pieces free) (count_none node n h))

-- what the contract says of an answer
pub told : (share n : ℕ) (free pieces : List TaggedRange) {o : Option Refusal} {gs cs : List TaggedRange}
    → so_far [] pieces (take_all_of share pieces free (count_up 0 n)) ≡ held_with o gs cs
    → let taken = taking share pieces free (count_up 0 n) in (rows_as o ≡ rows_as taken.refusal) × (cs ≡ pieces ++ taken.chosen)
unfolding taking
told share n free pieces e = (ap (λ (j : Judged). rows_as j.refusal) (sym e), ap (λ (j : Judged). j.chosen) (sym e))
