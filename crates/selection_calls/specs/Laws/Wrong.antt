-- Wrong answers of selection by words, each refuted (docs/PROVED.md).
use Rattle.std.specs.Prelude.{Bool, false, List, [], ◌∷◌, ◌≢◌, eqb, Err}
use Rattle.std.proofs.Common.{ap, true≢false}
use Rattle.std.proofs.lemmas.Bool.{false≢true}
use Rattle.memory_range.specs.Range.{range}
use Rattle.host_params.specs.declared.MemoryEntry.{MemoryEntry}
use Rattle.host_params.specs.declared.MemoryMapEntryType.TheVariants.{Vtl2Protectable}
use Rattle.host_map.specs.Map.{is_protectable}
use Rattle.table_words.specs.declared.code.CallError.{CallError}
use Rattle.selection_calls.specs.Selection.{word_entries, count_or}

-- what the answers are told apart by
abbrev first_protectable : List MemoryEntry → Bool
first_protectable [] = false
first_protectable (x ∷ xs) = is_protectable x.mem_type

-- the node taken for the type: the node is 1 and the type 0
pub type_of_another :
    word_entries (0x1000 ∷ 0x2000 ∷ 1 ∷ 0 ∷ []) ≢ record { range = range 0x1000 0x2000; vnode = 1; mem_type = Vtl2Protectable } ∷ []
type_of_another e = false≢true (ap first_protectable e)

-- a count stored on a refusal
pub count-on_refusal : (n : CallError) → count_or (Err n) 7 ≢ 0
count-on_refusal n e = true≢false (ap (eqb 7) e)
