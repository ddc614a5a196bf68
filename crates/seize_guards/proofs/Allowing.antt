-- What a rule of links allows of contents it allows of what the list calls them.
use Rattle.std.proofs.Common.{◌≡◌, ℕ, Option, Some, None, IfSome, sym, ap, ◌∙◌, subst, arith, refl}
use base.Stored.{Coded, Gv}
use denote.Bor.{Bor}
use Rattle.seize_book.specs.Pairs.{content_number}
use Rattle.seize_parts.specs.Blocks.{IsNamed, content_of}
use Rattle.seize_parts.specs.Rules.{HoldsOf, number_if}
use Rattle.seize_parts.specs.declared.block.owned.Owned.{Owned}
use Rattle.seize_guards.specs.Exchanges.{current_name, current_value}
use Rattle.seize_guards.specs.Links.{IsSharedOf, shared_value}
use Rattle.seize_guards.specs.declared.block.shared.Shared.{Shared}
use Rattle.seize_words.specs.declared.words.Words.{Words}
use Rattle.seize_words.proofs.Facts.{same_content}
use Rattle.seize_book.specs.Loans.{place_of}
use Rattle.seize_parts.specs.Blocks.{HasContent}
use Rattle.seize_guards.proofs.Onwards.{named_says}

-- A name says one content: `coded` is `T.row.coded`.
pub content_once : {T : Type 0} (coded : Coded T) (v : ℕ) (x y : T) → HasContent coded.code v x → HasContent coded.code v y → x ≡ y
content_once coded v x y one two = coded.inj x y (same_content v (place_of v) (place_of v) (coded.code x) (coded.code y) (refl, one) (refl, two)).1

-- whatever is there
pub allows_any : {T : Type 0} (code : T → Gv) (keeps : ℕ → Option T → Option T → Type 0) (l : ℕ) (block : Option (Owned T)) (o : Option ℕ) → IsNamed code block o → ((x : Option T) → keeps l x (content_of block))
    → (x : Option T) → HoldsOf code (keeps l x) o
allows_any code keeps l block o named rule x = (content_of block, named_says code block o named, rule x)

-- and where what was found is there: its number tells its content
module _ {T : Type 0} (coded : Coded T) (collector : Words T) where
  is_current : (current : Option (Bor (Shared T))) → IfSome current (λ shared. IsSharedOf coded.code collector shared.now) → (x : Option T) → content_number (current_name current) ≡ number_if coded.code x → current_value current ≡ x
  is_current None of None is = refl
  is_current None of (Some x) is = absurd (omega (arith, is))
  is_current (Some shared) of None is = let found = of.1 in let lent = found.2 in absurd (let none = sym (ap content_number found.1) ∙ is in omega (arith, lent, none))
  is_current (Some shared) of (Some x) is =
      let found = of.1 in ap Option.Some (content_once coded found.0 (shared_value shared.now) x found.2 (sym (ap content_number found.1) ∙ is))

  pub allows_one : (keeps : ℕ → Option T → Option T → Type 0) (l : ℕ) (current : Option (Bor (Shared T))) (block : Option (Owned T)) (o : Option ℕ) → IfSome current (λ shared. IsSharedOf coded.code collector shared.now) → IsNamed coded.code block o
      → keeps l (current_value current) (content_of block) → (x : Option T) → content_number (current_name current) ≡ number_if coded.code x → HoldsOf coded.code (keeps l x) o
  allows_one keeps l current block o of named rule x is = (content_of block, named_says coded.code block o named, subst (λ (y : Option T). keeps l y (content_of block)) (is_current current of x is) rule)
