-- What becomes of the pieces that a part of boot selection meets, one after the other, and the refusal
-- at the first one that breaks a rule or a bound (docs/SPEC.md, section 19). The bounds are judged
-- piece by piece, so a refusal hides whatever would follow it: `judged` (document 01, the text under the chart).
use Rattle.std.specs.Prelude.{ℕ, ◌+◌, cond, ◌≡◌, List, [], ◌∷◌, ◌++◌, ltb, length, set, Option, Some, None, Result}
use Rattle.memory_range.specs.declared.range.TaggedRange.{TaggedRange}
use Rattle.memory_range.specs.List.{starts_of, ends_of, tags_of}
use Rattle.refusal.specs.Answer.{counted_as}
use Rattle.refusal.specs.Number.{too_many_pieces}
use Rattle.refusal.specs.declared.Refusal.{Refusal}

-- a piece, with its node, is free or chosen; or the part refuses; or passes over it
pub data Verdict : Type 0 where
  free choose : TaggedRange → Verdict
  refuse : Refusal → Verdict
  pass : Verdict

-- so many free and so many chosen pieces can be held
abbrev pub max_free : ℕ
max_free = 1024

abbrev pub max_chosen : ℕ
max_chosen = 64

-- what a part comes to: its refusal, if any, and the pieces that came before it
pub record Judged : Type 0 where
  pub refusal : Option Refusal
  pub free : List TaggedRange
  pub chosen : List TaggedRange

abbrev pub ends : Option Refusal → Judged
ends n = record { refusal = n; free = []; chosen = [] }

abbrev pub with_free : TaggedRange → Judged → Judged
with_free x j = record { refusal = j.refusal; free = x ∷ j.free; chosen = j.chosen }

abbrev pub with_chosen : TaggedRange → Judged → Judged
with_chosen x j = record { refusal = j.refusal; free = j.free; chosen = x ∷ j.chosen }

-- the verdicts in turn, where f free and c chosen pieces are held already
abbrev pub judged : ℕ → ℕ → List Verdict → Judged
judged f c [] = ends None
judged f c (free x ∷ vs) = cond (ltb f max_free) (with_free x (judged (f + 1) c vs)) (ends (Some too_many_pieces))
judged f c (choose x ∷ vs) = cond (ltb c max_chosen) (with_chosen x (judged f (c + 1) vs)) (ends (Some too_many_pieces))
judged f c (refuse n ∷ vs) = ends (Some n)
judged f c (pass ∷ vs) = judged f c vs

-- what a part comes to, behind pieces that are held already
abbrev pub behind : List TaggedRange → List TaggedRange → Judged → Judged
behind fs cs j = record { refusal = j.refusal; free = fs ++ j.free; chosen = cs ++ j.chosen }

-- the refusal, if any, or how many are free, as an answer
abbrev pub free_counted : Judged → Result ℕ Refusal
free_counted j = counted_as j.refusal (length j.free)

-- or how many are chosen, with those that were before
abbrev pub chosen_counted : ℕ → Judged → Result ℕ Refusal
chosen_counted c j = counted_as j.refusal (c + length j.chosen)

-- lists of numbers beside each other, as callers may hold them: one with numbers written into it one after the other,
-- from place k on
abbrev pub written : ℕ → List ℕ → List ℕ → List ℕ
written k [] l = l
written k (x ∷ xs) l = written (k + 1) xs (set l k x)

-- three of them with the starts, ends and nodes of entries written into them, from place k on: first as they
-- were, then as they are
abbrev pub WrittenTo : ℕ → List TaggedRange → List ℕ → List ℕ → List ℕ → List ℕ → List ℕ → List ℕ → Type 0
WrittenTo k xs ss es ts ss' es' ts' =
    (ss' ≡ written k (starts_of xs) ss) × (es' ≡ written k (ends_of xs) es) × (ts' ≡ written k (tags_of xs) ts)
