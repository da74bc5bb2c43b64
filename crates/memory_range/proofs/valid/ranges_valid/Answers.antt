-- The chain tests the range of each item.
use Rattle.std.proofs.Common.{List, [], ◌∷◌, ◌≡◌, refl, ap, ◌∙◌, ◌&&◌, map, rules, tests}
use Rattle.std.specs.List.{list_all}
use Rattle.std.proofs.lemmas.Iterator.{YieldsList-from_slice}
use Rattle.std.proofs.lemmas.Iterator.Search.{all_from_yields_List}
use Rattle.memory_range.specs.declared.range.MemoryRange.{MemoryRange}
use Rattle.memory_range.specs.Valid.{valid_range, all_valid_of}
use Rattle.memory_range.proofs.valid.ranges_valid.Goals as goal

valid_items : {X : Type 0} (f : X → MemoryRange) (xs : List X) → list_all (λ x. valid_range (f x)) xs ≡ all_valid_of (map f xs)
valid_items f [] = refl
valid_items f (x ∷ xs) = ap (λ t. valid_range (f x) && t) (valid_items f xs)

pub returns : goal.returns
returns g c =
    all_from_yields_List (λ x. valid_range (g.R.HasRange.range_in x)) c.all.new.self _ _ c.all.ensures.ran
    (YieldsList-from_slice c.args.list.now cc)
    (λ x b q k. search (rules, tests))
    ∙ valid_items g.R.HasRange.range_in c.args.list.now
