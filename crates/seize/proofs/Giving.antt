-- The number of a slot goes back, of a collector in one caller's hands: at once, or after it gathered what was left, as often as there is
-- something.
--     gave_now, gave_then      what is given back is that;  what is left of a give-back after a gathering, and that it weighs less
--     Goes                     how far a give-back is: it is done, or this is left of it
--     left_of                  how much is left of it;  goes_on, goes_done     it goes on after a gathering, or is done
use Rattle.std.proofs.Common.{◌≡◌, ℕ, suc, ◌+◌, ◌<◌, ◌==◌, Bool, true, false, not, if◌then◌else◌, List, [], ◌∷◌, ◌++◌, map, sum_by, refl, sym, ap, subst, ◌∙◌, arith}
use Rattle.std.proofs.lemmas.List.{append_assoc}
use Rattle.std.proofs.lemmas.List.Sums.{fold-append}
use base.Stored.{Gv}
use Rattle.seize_model.specs.Waiting.Attempt.{StateAndGone, with_gone}
use Rattle.seize_model.specs.Waiting.Calls.{gathering, give_back, is_free, rest_and_batch, with_number_free}
use Rattle.seize_model.specs.Waiting.Further.{Lighter}
use Rattle.seize_model.specs.Waiting.Laws.{EndsNow, GathersFirst}
use Rattle.seize_model.specs.Waiting.State.{ModelState, has_guard, model_slot}
use Rattle.seize_model.proofs.WaitingSets.Giving.{giving}
use Rattle.seize_book.specs.Entry.{Entry}
use Rattle.seize_book.specs.Tokens.{Name}
use Rattle.seize_alone.specs.Holding.{Holds}
use Rattle.seize_alone.proofs.Outlines.{gathering_outline, guards_in, kind_in}
use Rattle.seize_alone.proofs.Shown.{slot_shown}
use Rattle.seize_parts.specs.Told.{Did, told_of}

unmapped : (k : ℕ) (l : List ℕ) → map (λ b. k + b) l ≡ [] → l ≡ []
unmapped k [] none = refl
unmapped k (b ∷ l) none = absurd (cc)

module _ {T : Type 0} (puts : ℕ → T → List T) (weight : T → ℕ) (lighter : Lighter puts weight) (st : ModelState T ℕ) (s : ℕ) where
  pub gave_now : EndsNow st s → give_back puts weight st s ≡ (with_number_free st s, [])
  gave_now ends = (giving puts weight lighter st s).0 ends

  module _ {code : T → Gv} {names : List (ℕ × T)} {kinds : List (ℕ × ℕ)} {n : Name} {seen : List Entry} (holds : Holds code st names kinds n seen) where
    free_none : (t : ℕ) → is_free (model_slot st t).kind ≡ true → has_guard (model_slot st t) ≡ false
    free_none t free = ap (λ (k : ℕ). not (k == 0)) ((slot_shown holds t).free free)

    none_waits : (t : ℕ) → has_guard (model_slot st t) ≡ false → (model_slot st t).order ≡ []
    none_waits t off = unmapped holds.gone (model_slot st t).order ((slot_shown holds t).inactive off)

    pub gave_then : is_free (model_slot st s).kind ≡ false → has_guard (model_slot st s) ≡ false → GathersFirst st s → let o = gathering puts weight st s in
        (give_back puts weight st s ≡ with_gone o.1 (give_back puts weight o.0 s)) × (sum_by (λ v. weight v.0) (rest_and_batch o.0 s) < sum_by (λ v. weight v.0) (rest_and_batch st s))
    gave_then used off goes = (giving puts weight lighter st s).1 used off free_none none_waits goes

-- How far it is.

pub record Remains {T Seen : Type 0} (puts : ℕ → T → List T) (weight : T → ℕ) (told : Seen → T → Seen) (st now : ModelState T ℕ) (s : ℕ) (seen seen' : Seen) : Type 0 where
  pub used : is_free (model_slot now s).kind ≡ false
  pub off : has_guard (model_slot now s) ≡ false
  pub gone : List (T × ℕ)
  pub is : give_back puts weight st s ≡ with_gone gone (give_back puts weight now s)
  pub hears : seen' ≡ told_of told seen gone

abbrev pub Goes : {T Seen : Type 0} → Bool → (ℕ → T → List T) → (T → ℕ) → (Seen → T → Seen) → ModelState T ℕ → ModelState T ℕ → ℕ → Seen → Seen → Type 0
Goes true puts weight told st now s seen seen' = Did told (give_back puts weight st s) now seen seen'
Goes false puts weight told st now s seen seen' = Remains puts weight told st now s seen seen'

-- how much is left of it
abbrev pub left_of : {T : Type 0} → Bool → (T → ℕ) → ModelState T ℕ → ℕ → ℕ
left_of true weight now s = 0
left_of false weight now s = suc (sum_by (λ v. weight v.0) (rest_and_batch now s))

module _ {T Seen : Type 0} (puts : ℕ → T → List T) (weight : T → ℕ) (told : Seen → T → Seen) (st : ModelState T ℕ) (s : ℕ) (seen : Seen) where
  module _ (mid now : ModelState T ℕ) (seen' seen'' : Seen) (left : Remains puts weight told st mid s seen seen') where
    told_both : (gone : List (T × ℕ)) → seen'' ≡ told_of told seen' gone → seen'' ≡ told_of told (told_of told seen left.gone) gone
    told_both gone hears = hears ∙ ap (λ (x : Seen). told_of told x gone) left.hears

    pub goes_done : Did told (give_back puts weight mid s) now seen' seen'' → Goes true puts weight told st now s seen seen''
    goes_done did = (
      did.0 ∙ ap (λ (o : StateAndGone T ℕ). o.0) (sym left.is),
      told_both (give_back puts weight mid s).1 did.1 ∙ sym (fold-append (λ (x : Seen) (v : T × ℕ). told x v.0) seen left.gone (give_back puts weight mid s).1) ∙ ap (λ (o : StateAndGone T ℕ). told_of told seen o.1) (sym left.is),
    )

    pub goes_on : let o = gathering puts weight mid s in Did told o now seen' seen'' → give_back puts weight mid s ≡ with_gone o.1 (give_back puts weight o.0 s) → Goes false puts weight told st now s seen seen''
    goes_on did law =
        let o : StateAndGone T ℕ = gathering puts weight mid s in let same = gathering_outline puts weight mid s in
        subst (λ (x : ModelState T ℕ). Remains puts weight told st x s seen seen'') (sym did.0) (record {
          used = ap is_free (kind_in o.0 mid same s) ∙ left.used;
          off = ap (λ (k : ℕ). not (k == 0)) (guards_in o.0 mid same s) ∙ left.off;
          gone = left.gone ++ o.1;
          is = left.is ∙ ap (λ (p : StateAndGone T ℕ). with_gone left.gone p) law ∙ (λ j. ((give_back puts weight o.0 s).0, sym (append_assoc left.gone o.1 (give_back puts weight o.0 s).1) j));
          hears = told_both o.1 did.1 ∙ sym (fold-append (λ (x : Seen) (v : T × ℕ). told x v.0) seen left.gone o.1);
        })
