-- Words for usages (docs/SPEC.md, section 31): 0 for free memory, and else the number of its usage plus 1.
use Rattle.std.specs.Prelude.{ℕ, ◌+◌, ◌-◌, cond, eqb, leb, Option, Some, None}
use Rattle.address_space.specs.declared.usage.AddressUsage.{AddressUsage}
use Rattle.address_space.specs.declared.usage.AddressUsage.TheVariants.{Free, Used, Reserved}
use Rattle.address_space.specs.Usage.{used_number, reserved_number_of, usage_of}

abbrev pub usage_word : AddressUsage → ℕ
usage_word Free = 0
usage_word Used = used_number + 1
usage_word (Reserved t) = reserved_number_of t + 1

-- the usage of a word: free for 0, and else that of the number one below; the words of usages are 0 to 10
unfoldable pub usage_of_word : ℕ → AddressUsage
usage_of_word w = cond (eqb w 0) Free (usage_of (w - 1))

-- the usage of a word, where the word is one of a usage
abbrev pub usage_read : ℕ → Option AddressUsage
usage_read w = cond (leb w 10) (Some (usage_of_word w)) None
