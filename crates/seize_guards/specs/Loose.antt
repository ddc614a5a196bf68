-- That a value may be retired is a fact, so it may stand beside the value.
--     may_retire-prop value         that this value may be retired
--     loose_of-prop words loose     and that it is one of the book of these words
use Rattle.std.specs.Prelude.{◌≡◌, ℕ, Bool, true, false}
use Rattle.std.specs.Coded.{Coded-set, coded_bool, ×_prop, Π_prop, →_prop}
use mathlib.Core.Path.{ap, ◌∙◌, sym, subst}
use mathlib.Core.Logic.{inl, inr}
use mathlib.Core.HLevel.{¬_prop, ×₃_prop}
use Rattle.seize_machine.specs.Machine.State.{State}
use Rattle.seize_book.specs.Others.{MayBegin, MayRetire, state_of, value_of}
use Rattle.seize_book.specs.Tokens.{name_coded}
use Rattle.seize_book.specs.declared.book.value_key.ValueKey.{ValueKey}
use Rattle.seize_words.specs.Joined.{words_book}
use Rattle.seize_words.specs.declared.words.Words.{Words}
use Rattle.seize_calls.specs.Slots.{IsLooseOf, loose_book}
use Rattle.seize_calls.specs.declared.slot.Loose.{Loose}

abbrev Holds : Bool → Type 0
Holds true = Unit {0}
Holds false = ⊥

either_once : {b : Bool} → b ≡ true → b ≡ false → ⊥
either_once is not = subst Holds (sym is ∙ not) tt

may_begin-prop : (v : ℕ) (st : State) → IsProp (MayBegin v st)
may_begin-prop v st (inl a) (inl b) =
    ap inl (×₃_prop (Coded-set coded_bool _ _) (Π_prop (λ w. →_prop (→_prop (Coded-set coded_bool _ _)))) ¬_prop a b)
may_begin-prop v st (inl a) (inr b) = absurd (either_once b.0 a.0)
may_begin-prop v st (inr a) (inl b) = absurd (either_once a.0 b.0)
may_begin-prop v st (inr a) (inr b) = ap inr (×_prop (Coded-set coded_bool _ _) (Coded-set coded_bool _ _) a b)

pub may_retire-prop : (value : ValueKey) → IsProp (MayRetire value)
may_retire-prop value = may_begin-prop (value_of value) (state_of value.keys)

pub loose_of-prop : {T : Type 0} (words : Words T) (loose : Loose) → IsProp (IsLooseOf words loose)
loose_of-prop words loose = ×_prop (Coded-set name_coded (loose_book loose) (words_book words)) (may_retire-prop loose.value)
