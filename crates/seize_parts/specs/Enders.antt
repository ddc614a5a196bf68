-- What the reclaimer of a collector puts, and whether it is that of some words.
--     IsEnderIn n ender, IsEnderOf words ender     its list of permits is that of book n, or of that of these words
--     Weighs code weight l n    this number, of what is lent with a value, stands for what weighs one more than n; 0 stands for nothing
use Rattle.std.specs.Prelude.{◌≡◌, ℕ, zero, suc}
use base.Stored.{Gv}
use Rattle.seize_book.specs.Lending.{ArePairsOf}
use Rattle.seize_book.specs.Loans.{loan_number}
use Rattle.seize_book.specs.Tokens.{Name}
use Rattle.seize_words.specs.Joined.{words_book}
use Rattle.seize_words.specs.declared.words.Words.{Words}
use Rattle.seize_parts.specs.declared.ender.Ender.{Ender}

abbrev pub IsEnderIn : {T R : Type 0} → Name → Ender T R → Type 0
IsEnderIn n ender = (ender.permits.list ≡ n.permits) × (ender.permits.store ≡ n.store) × ArePairsOf n ender.pairs

abbrev pub IsEnderOf : {T R : Type 0} → Words T → Ender T R → Type 0
IsEnderOf words ender = IsEnderIn (words_book words) ender

abbrev pub Weighs : {T : Type 0} → (T → Gv) → (T → ℕ) → ℕ → ℕ → Type 0
Weighs code weight zero n = n ≡ 0
Weighs {T} code weight (suc l) n = (x : T) × (loan_number (code x) ≡ suc l) × (weight x ≡ suc n)
