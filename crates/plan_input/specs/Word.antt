-- Records by the place of their word among the fourteen words, from the first of a list of records on (docs/SPEC.md, section 28).
use Rattle.std.specs.Prelude.{ℕ, Bool, cond, List, [], ◌∷◌, eqb, Option, Some, None}
use Rattle.plan_record.specs.declared.record.Record.{Record}
use Rattle.plan_text.specs.Order.{place_of}

-- whether a record's word is at place k
abbrev pub of_word : ℕ → Record → Bool
of_word k r = eqb (place_of r) k

-- the first record, if its word is at place k, and the records behind it
abbrev pub word_first : ℕ → List Record → Option Record
word_first k [] = None
word_first k (r ∷ rs) = cond (of_word k r) (Some r) None

abbrev pub behind_word : ℕ → List Record → List Record
behind_word k [] = []
behind_word k (r ∷ rs) = cond (of_word k r) rs (r ∷ rs)

-- the first records, as long as their word is at place k, and the records behind them
abbrev pub words_first : ℕ → List Record → List Record
words_first k [] = []
words_first k (r ∷ rs) = cond (of_word k r) (r ∷ words_first k rs) []

abbrev pub behind_words : ℕ → List Record → List Record
behind_words k [] = []
behind_words k (r ∷ rs) = cond (of_word k r) (behind_words k rs) (r ∷ rs)
