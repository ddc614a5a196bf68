-- That keys may be put is a fact, so it may stand beside the keys.
--     is_served-prop keys name     that the keys are of this book, and each of their values may be put
use Rattle.std.specs.Prelude.{List, [], ◌∷◌}
use Rattle.std.specs.Coded.{Coded-set, coded_bool, ×_prop, Π_prop, →_prop}
use mathlib.Core.Path.{refl}
use mathlib.Core.HLevel.{¬_prop, ×₃_prop}
use Rattle.seize_book.specs.Entry.{Entry}
use Rattle.seize_book.specs.Ledger.{HeldKey}
use Rattle.seize_book.specs.Tokens.{Name, name_coded}
use Rattle.seize_book.specs.Values.{AllNew, book_in}
use Rattle.seize_book.specs.declared.book.value_keys.ValueKeys.{ValueKeys}
use Rattle.seize_calls.specs.Handing.{IsServed}

all_new-prop : (n : Name) (held : List (HeldKey Entry)) → IsProp (AllNew n held)
all_new-prop n [] a b = refl
all_new-prop n (h ∷ held) a b =
    ×_prop (×₃_prop (Coded-set coded_bool _ _) (Π_prop (λ v. →_prop (→_prop (Coded-set coded_bool _ _)))) ¬_prop) (all_new-prop n held) a b

pub is_served-prop : (keys : ValueKeys) (name : Name) → IsProp (IsServed keys name)
is_served-prop keys name = ×_prop (Coded-set name_coded (book_in keys) name) (all_new-prop (book_in keys) keys.keys.held)
