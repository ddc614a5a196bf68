-- The words in which the contracts of porters speak.
--     IsPorterPass porter pass      it is of the porter's book, with its batch size;  IsSamePorter porter porter'     so has the later one
--     GoesOnTo name seen seen'  seen' is a legal list that goes on from seen, and the laws hold of it: it is sound (`IsSound`), with each
--                               value that was named something is lent, and the links of the opening are distinct
--     LendsPass porter pass     a new pass of the porter's book, which isn't the first, with which nothing was made, and which has seen a
--                               list that goes on from what the porter has seen
--     GrewByOthers porter pass  the pass has seen a list that goes on from what the porter has seen, and nothing was made with the first
--                               pass meanwhile
--     Resizes porter porter' size   it is the same, but that the batch size is this
--     most_raised sizes size         the greatest size, or this one, if it is greater
--     LeavesHome porter porter'     it is the same, but not at home
--     WasWhole home seen seen'  it is seen still, if the porter was at home: then that was the whole list, and nobody could add
--     ComesHome porter porter'  the porter is at home: it owns the copy of the whole list (`gate_leaves` in `Tokens`), and nothing was made
--                               with the first pass meanwhile
--     Shuts porter pass         the first pass in the porter's place, which is alone
--     IsFirst book pass         the same of a book that has just begun;  HasFirstSize book sizes size    and its greatest size is this one
--     OpensAgain pass porter    the porter, which is at home, has seen what the pass had
--     MayStay may porter        the work may be done with each first pass that the porter may give
--     HadStay gave porter porter'   the work was done with the first pass, `lent`, which was alone: `back` is the same pass when the work
--                               ended, and has seen a list that goes on from what `lent` had. The porter is at home, and has seen what
--                               `back` had seen
--     IsFirstPorter book porter size     the porter of a book that has just begun, which is at home, with this batch size
--     Opens book porter keys links size store table     a new book with so many links, which are empty, and with its keys; and the
--                               porter of its passes, which is at home, with this batch size
use Rattle.std.specs.Prelude.{◌≡◌, ℕ, max, Bool, true, false, List, []}
use mathlib.Core.List.{IsPrefix}
use Rattle.seize_machine.specs.Machine.State.{are_distinct, linked_values}
use Rattle.seize_book.specs.Book.{IsLegalList, after, mine}
use Rattle.seize_book.specs.Books.{HasKeys, IsNewPass}
use Rattle.seize_book.specs.Homes.{IsSound}
use Rattle.seize_book.specs.Entry.{Entry}
use Rattle.seize_book.specs.Passes.{IsSamePass}
use Rattle.seize_book.specs.Loans.{AllCarryOne}
use Rattle.seize_book.specs.Tokens.{IsSole, Name, start}
use Rattle.seize_book.specs.declared.book.book_keys.BookKeys.{BookKeys}
use Rattle.seize_book.specs.declared.book.pass.Pass.{Pass}
use Rattle.seize_book.specs.declared.book.porter.Porter.{Porter}
use Rattle.seize_book.specs.declared.book.seen.Seen.{Seen}
use Rattle.seize_book.specs.declared.book.sizes.Sizes.{Sizes}

abbrev pub IsPorterPass : Porter → Pass → Type 0
IsPorterPass porter pass = (pass.name ≡ porter.name) × (pass.size ≡ porter.size)

pub record GoesOnTo (name : Name) (seen seen' : List Entry) : Type 0 where
  pub grows : IsPrefix seen seen'
  pub legal : IsLegalList (start name) seen'
  pub sound : IsSound (after (start name) seen')
  pub lent : AllCarryOne (after (start name) seen').named
  pub distinct : are_distinct (linked_values name.links) ≡ true

pub record LendsPass (porter : Porter) (pass : Pass) : Type 0 where
  pub book : IsPorterPass porter pass
  pub new : IsNewPass pass
  pub others : ¬ (IsSole pass.id)
  pub goes_on : GoesOnTo porter.name porter.seen pass.seen

abbrev pub GrewByOthers : Porter → Pass → Type 0
GrewByOthers porter pass =
    IsPrefix porter.seen pass.seen × (mine (start porter.name) 0 pass.seen ≡ mine (start porter.name) 0 porter.seen)

abbrev pub IsSamePorter : Porter → Porter → Type 0
IsSamePorter porter porter' = (porter'.name ≡ porter.name) × (porter'.size ≡ porter.size)

abbrev pub LeavesHome : Porter → Porter → Type 0
LeavesHome porter porter' = IsSamePorter porter porter' × (porter'.seen ≡ porter.seen) × (porter'.home ≡ false)

abbrev pub Resizes : Porter → Porter → ℕ → Type 0
Resizes porter porter' size =
    (porter'.name ≡ porter.name) × (porter'.size ≡ size) × (porter'.seen ≡ porter.seen) × (porter'.home ≡ porter.home)

abbrev pub most_raised : Sizes → ℕ → Sizes
most_raised sizes size = record sizes { most = max sizes.most size }

abbrev pub WasWhole : Bool → List Entry → List Entry → Type 0
WasWhole home seen seen' = home ≡ true → seen' ≡ seen

pub record ComesHome (porter porter' : Porter) : Type 0 where
  pub book : IsSamePorter porter porter'
  pub home : porter'.home ≡ true
  pub goes_on : GoesOnTo porter.name porter.seen porter'.seen
  pub none_made : mine (start porter.name) 0 porter'.seen ≡ mine (start porter.name) 0 porter.seen
  pub was : WasWhole porter.home porter.seen porter'.seen

pub record Shuts (porter : Porter) (pass : Pass) : Type 0 where
  pub book : IsPorterPass porter pass
  pub alone : IsSole pass.id
  pub goes_on : GoesOnTo porter.name porter.seen pass.seen
  pub none_made : mine (start porter.name) 0 pass.seen ≡ mine (start porter.name) 0 porter.seen
  pub was : WasWhole porter.home porter.seen pass.seen

-- the first pass of a book that has just begun
abbrev pub IsFirst : Seen → Pass → Type 0
IsFirst book pass = IsSole pass.id × (pass.name ≡ book.name) × (pass.seen ≡ [])

abbrev pub HasFirstSize : Seen → Sizes → ℕ → Type 0
HasFirstSize book sizes size = (sizes.name ≡ book.name) × (sizes.most ≡ size)

abbrev pub OpensAgain : Pass → Porter → Type 0
OpensAgain pass porter = IsPorterPass porter pass × (porter.seen ≡ pass.seen) × (porter.home ≡ true)

abbrev pub MayStay : (Pass → Type 0) → Porter → Type 0
MayStay may porter = (pass : Pass) → Shuts porter pass → may pass

pub record HadStay (gave : Pass → Pass → Type 0) (porter porter' : Porter) : Type 0 where
  pub lent : Pass
  pub back : Pass
  pub shut : Shuts porter lent
  pub same : IsSamePass lent back
  pub grows : IsPrefix lent.seen back.seen
  pub gives : gave lent back
  pub again : OpensAgain back porter'

-- the porter of a book that has just begun, which is at home, with this batch size
abbrev pub IsFirstPorter : Seen → Porter → ℕ → Type 0
IsFirstPorter book porter size = (porter.name ≡ book.name) × (porter.size ≡ size) × (porter.seen ≡ []) × (porter.home ≡ true)

abbrev pub Opens : Seen → Porter → BookKeys → ℕ → ℕ → List ℕ → List ℕ → Type 0
Opens book porter keys links size store table =
    IsFirstPorter book porter size × HasKeys book keys links store table × (keys.sizes.most ≡ size)
