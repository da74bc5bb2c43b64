-- Laws of a build's call: what it comes to, by the tests of the code and by the build's answer.
use Rattle.std.specs.Prelude.{ℕ, Bool, ◌||◌, ◌≡◌, List, Some, None, Ok, Err}
use Rattle.refusal.specs.declared.Refusal.{Refusal}
use Rattle.address_space.specs.declared.table.AddressSpaceManager.{AddressSpaceManager}
use Rattle.address_space.specs.Table.{pool_of}
use Rattle.address_space.specs.Laws.Split.{entries_with}
use Rattle.memory.specs.declared.init.Init.{Init}
use Rattle.memory.specs.Build.{Build, refused, built, init_as}
use Rattle.table_words.specs.declared.code.CallError.TheVariants.{Refused, BadTable}
use Rattle.table_words.specs.Table.{table_in, table_of, read_as}
use Rattle.table_words.specs.Laws.Table.{read_none, read_some}
use Rattle.table_calls.specs.Build.{built_call, words_build}
use Rattle.bootplan_c.specs.Build.{Given, build_call}

pub build-bad : (g : Given) (words : List ℕ) → None ≡ read_as (table_of words) → build_call g words ≡ Err BadTable
unfolding build_call
build-bad g words e = rw (read_none (table_of words) e)

pub build-read : (g : Given) (words : List ℕ) {m : AddressSpaceManager} → Some m ≡ read_as (table_of words)
    → build_call g words ≡ words_build g.used g.state (table_in m) g.ram g.reserved g.configs g.pools
unfolding build_call
build-read g words e = rw (read_some (table_of words) e)

-- what a build's answer says of it
module _ (m : AddressSpaceManager) (pool : Bool) where
  as_refused : (o : Build) (n : Refusal) → (init_as m pool o).answer ≡ Err n → built_call (pool_of m || pool) o ≡ Err (Refused n)
  as_refused (refused k) n h = cc
  as_refused (built es) n h = cc

  as-built : (o : Build) → (init_as m pool o).answer ≡ Ok tt → built_call (pool_of m || pool) o ≡ Ok (table_in (init_as m pool o).manager)
  as-built (refused k) h = cc
  as-built (built es) h = rw (entries_with m es (pool_of m || pool))

  pub init_refused : (o : Build) {i : Init} {n : Refusal} → i ≡ init_as m pool o → i.answer ≡ Err n
      → built_call (pool_of m || pool) o ≡ Err (Refused n)
  init_refused o {n = n} e h = as_refused o n (rw e at h)

  pub init-built : (o : Build) {i : Init} → i ≡ init_as m pool o → i.answer ≡ Ok tt
      → built_call (pool_of m || pool) o ≡ Ok (table_in i.manager)
  init-built o e h = rw e (as-built o (rw e at h))
