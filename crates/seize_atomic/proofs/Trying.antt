-- One try of an alteration: what an exchange says of it.
use Rattle.std.proofs.Common.{◌≡◌, ℕ, List, Option, Some, None, IfSome, sym, ap, subst, ◌∙◌, option_copied, option_map}
use denote.Bor.{Bor}
use base.Stored.{Gv}
use Rattle.core.specs.declared.result.Result.{Result}
use Rattle.core.specs.declared.result.Result.TheVariants.{Err, Ok}
use Rattle.seize.specs.Answer.TheVariants.{Link}
use Rattle.seize.specs.Blocks.{HoldsOnly, content_of}
use Rattle.seize.specs.Collectors.{BelongsTo, IsBlockOf, its_store}
use Rattle.seize.specs.Exchange.TheVariants.{Compare}
use Rattle.seize.specs.Exchanges.{MakesExchange, current_name, current_value}
use Rattle.seize.specs.Links.{ComesOut, Shows, found_name, shared_value}
use Rattle.seize.specs.Machine.Event.{ExchangeLink}
use Rattle.seize.specs.Makes.{MakesOne}
use Rattle.seize.specs.Rules.{Says}
use Rattle.seize.proofs.Facts.{named_says}
use Rattle.seize_book.specs.declared.book.pass.Pass.{Pass}
use Rattle.seize_guards.specs.declared.block.failed.Failed.{Failed}
use Rattle.seize_parts.specs.declared.block.owned.Owned.{Owned}
use Rattle.seize_guards.specs.declared.block.shared.Shared.{Shared}
use Rattle.seize_guards.specs.declared.block.unlinked.Unlinked.{Unlinked}
use Rattle.seize_words.specs.declared.activation.Activation.{Activation}
use Rattle.seize_words.specs.declared.words.Words.{Words}
use Rattle.seize_atomic.specs.Attempts.{AttemptsCell}
use Rattle.seize_atomic.specs.Alters.{IsMadeBy, MakesBlock, MayAnswer, MayHold, Refuses}
use Rattle.seize_atomic.specs.declared.attempt.Missed.TheVariants.{Lost}

-- what was found is the content that its name says
pub shows_says : {T : Type 0} (words : Words T) (code : T → Gv) (held : Option ℕ) (found : Option (Shared T)) → Shows words code held found → Says code held (option_map shared_value found)
shows_says words code held (Some shared) shows = subst (λ (o : Option ℕ). Says code o (Some (shared_value shared))) (sym (sym shows.0 ∙ shows.1.1.1)) shows.1.1.2
shows_says words code held None shows = subst (λ (o : Option ℕ). Says code o None) (sym shows) tt

current_is : {T : Type 0} (current : Option (Bor (Shared T))) (found : Option (Shared T)) → option_copied current ≡ found → current_name current ≡ found_name found
current_is (Some shared) found is = ap found_name is
current_is None found is = ap found_name is

value_is : {T : Type 0} (current : Option (Bor (Shared T))) (found : Option (Shared T)) → option_copied current ≡ found → current_value current ≡ option_map shared_value found
value_is (Some shared) found is = ap (option_map shared_value) is
value_is None found is = ap (option_map shared_value) is

module _ {T A E : Type 0} (post : Option (Bor T) → Result (Option T × A) E → Type 0) (code : T → Gv) (words : Words T) (i : ℕ) (found : Option (Shared T)) (shows : Shows words code (found_name found) found) where
  -- the function refused
  pub refuses : (e : E) → MayAnswer post (option_map shared_value found) (Err e) → Refuses post code (found_name found) e
  refuses e answers = (option_map shared_value found, shows_says words code (found_name found) found shows, answers)

  module _ (y : Option T) (given : A) (answers : MayAnswer post (option_map shared_value found) (Ok (y, given))) where
    -- a value of which no block could be made
    pub needs_block : (value : T) → y ≡ Some value → MakesBlock post code (found_name found)
    needs_block value is = (
      option_map shared_value found,
      value,
      given,
      shows_says words code (found_name found) found shows,
      subst (λ (o : Option T). MayAnswer post (option_map shared_value found) (Ok (o, given))) is answers,
    )

    -- the block of what the function answers may go in
    pub new_belongs : (keeps : ℕ → Option T → Option T → Type 0) (owners : T → List (List ℕ)) (own : Words T) (new : Option (Owned T)) → own ≡ words → MayHold post keeps owners (its_store words) i
        → content_of new ≡ y → IfSome new (IsBlockOf words) → IfSome new (λ owned. BelongsTo owners own owned)
    new_belongs keeps owners own None same holds is block = tt
    new_belongs keeps owners own (Some owned) same holds is block =
        subst (λ (w : Words T). BelongsTo owners w owned) (sym same)
        (block, subst (λ (o : Option T). IfSome o (HoldsOnly owners (its_store words))) (sym is) (holds (option_map shared_value found) y given answers).1)

    -- and the rule allows it
    pub may_follow : (keeps : ℕ → Option T → Option T → Type 0) (owners : T → List (List ℕ)) (new : Option (Owned T)) (current : Option (Bor (Shared T))) → MayHold post keeps owners (its_store words) i
        → content_of new ≡ y → option_copied current ≡ found → keeps i (current_value current) (content_of new)
    may_follow keeps owners new current holds is its =
        subst (λ (o : Option T). keeps i o (content_of new)) (sym (value_is current found its)) (subst (keeps i (option_map shared_value found)) (sym is) (holds (option_map shared_value found) y given answers).0)

    module _ (own : Words T) (same : own ≡ words) (t s : ℕ) (same_slot : t ≡ s) (a : Activation) (current : Option (Bor (Shared T))) (its : option_copied current ≡ found) (new : Option (Owned T)) (is : content_of new ≡ y)
        (pass pass' : Pass) where
      made_by : (put : Option ℕ) → Says code put (content_of new) → IsMadeBy post code (found_name found) put given
      made_by put says = (option_map shared_value found, y, shows_says words code (found_name found) found shows, answers, subst (Says code put) is says)

      abbrev named : ℕ → Words T → Option ℕ → Result (Option (Unlinked T)) (Failed T) → Type 0
      named n w o r = MakesExchange code w n a i o new pass pass' r

      by_names : (result r : Result (Option (Unlinked T)) (Failed T)) → MakesExchange code own t a i (current_name current) new pass pass' result → result ≡ r → named s words (found_name found) r
      by_names result r made ended =
          subst (named s words (found_name found)) ended (subst (λ (o : Option ℕ). named s words o result) (current_is current found its)
          (subst (λ (w : Words T). named s w (current_name current) result) same (subst (λ (n : ℕ). named n own (current_name current) result) same_slot made)))

      pub try_won : (result : Result (Option (Unlinked T)) (Failed T)) (out : Option (Unlinked T)) → MakesExchange code own t a i (current_name current) new pass pass' result → result ≡ Ok out
          → AttemptsCell post code words s i found pass pass' (Ok (out, given))
      try_won result out made ended =
          let e = by_names result (Ok out) made ended in (
            e.put,
            made_by e.put (named_says code new e.put e.named),
            subst (λ (o : Option ℕ). MakesOne pass pass' (ExchangeLink s i (Compare (found_name found) e.put)) (Link o)) (sym e.outcome.0) e.made,
            subst (λ (o : Option ℕ). ComesOut o out) (sym e.outcome.0) e.outcome.1,
            e.outcome.2,
          )

      pub try_lost : (result : Result (Option (Unlinked T)) (Failed T)) (failed : Failed T) → MakesExchange code own t a i (current_name current) new pass pass' result → result ≡ Err failed
          → AttemptsCell post code words s i found pass pass' (Err (Lost failed.found))
      try_lost result failed made ended =
          let e = by_names result (Err failed) made ended in
          (e.put, e.held, given, made_by e.put (named_says code new e.put e.named), e.outcome.0, e.made, e.outcome.1)
