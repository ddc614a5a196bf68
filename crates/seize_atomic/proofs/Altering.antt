-- How an alteration goes on. What is known in its loop: whatever the tries that are left come to, the alteration comes to that.
use Rattle.std.proofs.Common.{◌≡◌, ℕ, suc, zero, Option, Some, None, sym, subst}
use denote.Bor.{Bor}
use base.Stored.{Gv}
use Rattle.core.specs.declared.result.Result.{Result}
use Rattle.core.specs.declared.result.Result.TheVariants.{Err, Ok}
use Rattle.seize.specs.Answer.TheVariants.{Link}
use Rattle.seize.specs.Links.{ComesOut, Shows, found_name}
use Rattle.seize.specs.Machine.Event.{ReadLink}
use Rattle.seize.specs.Makes.{MakesOne}
use Rattle.seize_book.specs.declared.book.pass.Pass.{Pass}
use Rattle.seize_guards.specs.declared.block.shared.Shared.{Shared}
use Rattle.seize_guards.specs.declared.block.unlinked.Unlinked.{Unlinked}
use Rattle.seize_words.specs.declared.words.Words.{Words}
use Rattle.seize_atomic.specs.Attempts.{AttemptsCell}
use Rattle.seize_atomic.specs.Cells.{RetiresOut, out_name}
use Rattle.seize_atomic.specs.Alters.{AltersCell, IsMadeBy, MayAnswer, TriesCell}
use Rattle.seize_atomic.specs.declared.attempt.Missed.{Missed}
use Rattle.seize_atomic.specs.declared.attempt.Missed.TheVariants.{Lost, NoMemory, Refused}
use Rattle.seize_atomic.specs.declared.cells.NotAltered.{NotAltered}
use Rattle.seize_atomic.specs.declared.cells.NotAltered.TheVariants as not_altered

-- what was found has the name that the link held
shows_name : {T : Type 0} (words : Words T) (code : T → Gv) (held : Option ℕ) (found : Option (Shared T)) → Shows words code held found → found_name found ≡ held
shows_name words code held (Some shared) shows = shows.0
shows_name words code held None shows = sym shows

shows_own : {T : Type 0} (words : Words T) (code : T → Gv) (held : Option ℕ) (found : Option (Shared T)) → Shows words code held found → Shows words code (found_name found) found
shows_own words code held found shows = subst (λ (o : Option ℕ). Shows words code o found) (sym (shows_name words code held found shows)) shows

-- what came out has the name that the link held
pub out_held : {T : Type 0} (held : Option ℕ) (out : Option (Unlinked T)) → ComesOut held out → out_name out ≡ held
out_held held (Some out) comes = sym comes
out_held held None comes = sym comes

module _ {T A E : Type 0} (post : Option (Bor T) → Result (Option T × A) E → Type 0) (code : T → Gv) (words : Words T) (s i kind tries : ℕ) (start : Pass) where
  abbrev pub IsAltering : ℕ → Option (Shared T) → Pass → Type 0
  IsAltering left found pass =
      ((q : Pass) (r : Result A (NotAltered E)) → TriesCell post code s i kind left (found_name found) pass q r → AltersCell post code s i kind tries start q r)
      × Shows words code (found_name found) found

  pub begins : (held : Option ℕ) (found : Option (Shared T)) (pass : Pass) → MakesOne start pass (ReadLink s i) (Link held) → Shows words code held found → IsAltering tries found pass
  begins held found pass made shows = (
    λ q r rest. (held, pass, made, subst (λ (o : Option ℕ). TriesCell post code s i kind tries o pass q r) (shows_name words code held found shows) rest),
    shows_own words code held found shows,
  )

  -- what is known where there is a try, and what that try left
  one_more : (left n : ℕ) (found : Option (Shared T)) (pass : Pass) → left ≡ suc n → IsAltering left found pass → IsAltering (suc n) found pass
  one_more left n found pass more known = subst (λ (m : ℕ). IsAltering m found pass) more known

  module _ (left n : ℕ) (more : left ≡ suc n) (found : Option (Shared T)) (pass mid : Pass) (known : IsAltering left found pass) (result : Result (Option (Unlinked T) × A) (Missed T E))
      (tried : AttemptsCell post code words s i found pass mid result) where
    came : (r : Result (Option (Unlinked T) × A) (Missed T E)) → result ≡ r → AttemptsCell post code words s i found pass mid r
    came r is = subst (AttemptsCell post code words s i found pass mid) is tried

    -- it was lost
    pub one_lost : (other : Option (Shared T)) → result ≡ Err (Lost other) → IsAltering n other mid
    one_lost other is = go (came (Err (Lost other)) is)
      where
        go : AttemptsCell post code words s i found pass mid (Err (Lost other)) → IsAltering n other mid
        go (put, held, a, by, differs, made, shows) = (
          λ q r rest. (one_more left n found pass more known).0 q r (TriesCell.lost n (found_name found) put held a pass mid q r by differs made
              (subst (λ (o : Option ℕ). TriesCell post code s i kind n o mid q r) (shows_name words code held other shows) rest)),
          shows_own words code held other shows,
        )

    -- it was won, and what came out is retired
    pub one_won : (out : Option (Unlinked T)) (a : A) (q : Pass) → result ≡ Ok (out, a) → RetiresOut s kind (out_name out) mid q → AltersCell post code s i kind tries start q (Ok a)
    one_won out a q is retired = go (came (Ok (out, a)) is)
      where
        go : AttemptsCell post code words s i found pass mid (Ok (out, a)) → AltersCell post code s i kind tries start q (Ok a)
        go (put, by, made, comes, its) =
            (one_more left n found pass more known).0 q (Ok a) (TriesCell.won n (found_name found) put a pass mid q by made
            (subst (λ (o : Option ℕ). RetiresOut s kind o mid q) (out_held (found_name found) out comes) retired))

    -- memory was refused
    pub one_without : result ≡ Err NoMemory → AltersCell post code s i kind tries start mid (Err not_altered.NoMemory)
    one_without is =
        let refused = came (Err NoMemory) is in
        (one_more left n found pass more known).0 mid (Err not_altered.NoMemory)
        (subst (λ (q : Pass). TriesCell post code s i kind (suc n) (found_name found) pass q (Err not_altered.NoMemory)) (sym refused.0) (TriesCell.no_memory n (found_name found) pass refused.1))

    -- the function refused
    pub one_refused : (e : E) → result ≡ Err (Refused e) → AltersCell post code s i kind tries start mid (Err (not_altered.Refused e))
    one_refused e is =
        let refused = came (Err (Refused e)) is in
        (one_more left n found pass more known).0 mid (Err (not_altered.Refused e))
        (subst (λ (q : Pass). TriesCell post code s i kind (suc n) (found_name found) pass q (Err (not_altered.Refused e))) (sym refused.0) (TriesCell.refused n (found_name found) pass e refused.1))

  -- no try is left
  pub none_left : (left : ℕ) (found : Option (Shared T)) (pass : Pass) → left ≡ zero → IsAltering left found pass → AltersCell post code s i kind tries start pass (Err not_altered.Contended)
  none_left left found pass none known =
      known.0 pass (Err not_altered.Contended) (subst (λ (n : ℕ). TriesCell post code s i kind n (found_name found) pass pass (Err not_altered.Contended)) (sym none) (TriesCell.over (found_name found) pass))

-- A function whose answers say more alters so too.
module _ {T A E : Type 0} (post weaker : Option (Bor T) → Result (Option T × A) E → Type 0) (less : (x : Option (Bor T)) (r : Result (Option T × A) E) → post x r → weaker x r) (code : T → Gv) (s i kind : ℕ) where
  answers_less : (x : Option T) (r : Result (Option T × A) E) → MayAnswer post x r → MayAnswer weaker x r
  answers_less x r (a, is, said) = (a, is, less a r said)

  made_less : (found put : Option ℕ) (a : A) → IsMadeBy post code found put a → IsMadeBy weaker code found put a
  made_less found put a (x, y, says, answers, said) = (x, y, says, answers_less x (Ok (y, a)) answers, said)

  tries_less : (left : ℕ) (found : Option ℕ) (pass pass' : Pass) (result : Result A (NotAltered E)) → TriesCell post code s i kind left found pass pass' result → TriesCell weaker code s i kind left found pass pass' result
  tries_less _ _ _ _ _ (TriesCell.over found pass) = TriesCell.over found pass
  tries_less _ _ _ _ _ (TriesCell.refused left found pass e (x, says, answers)) = TriesCell.refused left found pass e (x, says, answers_less x (Err e) answers)
  tries_less _ _ _ _ _ (TriesCell.no_memory left found pass (x, y, a, says, answers)) = TriesCell.no_memory left found pass (x, y, a, says, answers_less x (Ok (Some y, a)) answers)
  tries_less _ _ _ _ _ (TriesCell.lost left found put held a pass mid pass' result by differs made rest) =
      TriesCell.lost left found put held a pass mid pass' result (made_less found put a by) differs made (tries_less left held mid pass' result rest)
  tries_less _ _ _ _ _ (TriesCell.won left found put a pass mid pass' by made retired) = TriesCell.won left found put a pass mid pass' (made_less found put a by) made retired

  pub alters_less : (tries : ℕ) (pass pass' : Pass) (result : Result A (NotAltered E)) → AltersCell post code s i kind tries pass pass' result → AltersCell weaker code s i kind tries pass pass' result
  alters_less tries pass pass' result (first, mid, reads, rest) = (first, mid, reads, tries_less tries first mid pass' result rest)
