-- What other crates may build on: what an alteration means at one moment of the list of all events.
use Rattle.std.proofs.Common.{◌≡◌, ℕ, List, Option, Some, None, IfOk, option_map, refl, sym, subst}
use denote.Bor.{Bor}
use base.Stored.{Gv}
use Rattle.core.specs.declared.result.Result.{Result}
use Rattle.core.specs.declared.result.Result.TheVariants.{Err, Ok}
use Rattle.seize.specs.Answer.{Answer}
use Rattle.seize.specs.Answer.TheVariants.{Link}
use Rattle.seize.specs.Exchange.TheVariants.{Compare}
use Rattle.seize.specs.Machine.Event.{Event, ExchangeLink, ReadLink}
use Rattle.seize.specs.Machine.History.{Moment}
use Rattle.seize.specs.Machine.State.{link_at}
use Rattle.seize.specs.Makes.{Makes, MakesOne}
use Rattle.seize.specs.Moments.{ExchangesOnly, LooksOnly, StandsSince}
use Rattle.seize.specs.Rules.{Says}
use Rattle.seize.specs.Links.{Shows, shared_value}
use Rattle.seize.proofs.Facts.{earlier_since, lost_there, makes_then, read_there, still_since, won_there}
use Rattle.seize_book.specs.declared.book.pass.Pass.{Pass}
use Rattle.seize_guards.specs.declared.block.shared.Shared.{Shared}
use Rattle.seize_words.specs.declared.words.Words.{Words}
use Rattle.seize_atomic.specs.Cells.{RetiresOut}
use Rattle.seize_atomic.specs.Alters.{AltersCell, IsMadeBy, MayAnswer, Refuses, TriesCell}
use Rattle.seize_atomic.specs.declared.cells.NotAltered.{NotAltered}
use Rattle.seize_atomic.specs.declared.cells.NotAltered.TheVariants.{Refused}
use Rattle.seize_atomic.proofs.Trying.{shows_says}
-- what was altered by a function was altered by one that says less of its answers
pub use Rattle.seize_atomic.proofs.Altering.{alters_less}

-- **What a read found, the cell holds at a moment of the list, after what the pass had seen before: that of the slot's read.**
pub was_read : {T : Type 0} (words : Words T) (code : T → Gv) (s i : ℕ) (held : Option ℕ) (found : Option (Shared T)) {p q : Pass} → MakesOne p q (ReadLink s i) (Link held) → Shows words code held found
    → (m : Moment) × StandsSince p q m × LooksOnly s i m × (link_at m.before i ≡ held) × Says code (link_at m.before i) (option_map shared_value found)
was_read words code s i held found reads shows =
    let there = read_there s i held reads in
    (there.0, there.1, there.3, there.2, subst (λ (o : Option ℕ). Says code o (option_map shared_value found)) (sym there.2) (shows_says words code held found shows))

module _ {T A E : Type 0} (post : Option (Bor T) → Result (Option T × A) E → Type 0) (code : T → Gv) (s i kind : ℕ) where
  -- a moment between two passes at which the slot exchanges the cell, which has one content before, and after it what the function answers
  -- for that, with this
  abbrev IsAlteredAt : Pass → Pass → A → Moment → Type 0
  IsAlteredAt pass pass' a m =
      StandsSince pass pass' m × ((x y : Option T) × MayAnswer post x (Ok (y, a)) × Says code (link_at m.before i) x × Says code (link_at m.after i) y)
      × ExchangesOnly s i m

  stays : (held : Option ℕ) (pass mid pass' : Pass) (m : Moment) → StandsSince pass mid m → RetiresOut s kind held mid pass' → StandsSince pass pass' m
  stays (Some v) pass mid pass' m since retired = still_since pass m since retired.0.made
  stays None pass mid pass' m since retired = subst (λ (q : Pass). StandsSince pass q m) (sym retired) since

  won_at : (found put : Option ℕ) (a : A) (pass mid pass' : Pass) → IsMadeBy post code found put a → MakesOne pass mid (ExchangeLink s i (Compare found put)) (Link found) → RetiresOut s kind found mid pass'
      → (m : Moment) × IsAlteredAt pass pass' a m
  won_at found put a pass mid pass' (x, y, says, answers, said) made retired =
      let there = won_there s i found put made in (
        there.0,
        (
          stays found pass mid pass' there.0 there.1 retired,
          (x, y, answers, subst (λ (o : Option ℕ). Says code o x) (sym there.2) says, subst (λ (o : Option ℕ). Says code o y) (sym there.3) said),
          there.4,
        ),
      )

  ok_same : (b a : A) → ◌≡◌ {A = Result A (NotAltered E)} (Ok b) (Ok a) → b ≡ a
  ok_same b a is = cc

  tried : (left : ℕ) (found : Option ℕ) (pass pass' : Pass) (result : Result A (NotAltered E)) (a : A) → result ≡ Ok a → TriesCell post code s i kind left found pass pass' result
      → (m : Moment) × IsAlteredAt pass pass' a m
  tried _ found pass _ _ a is (TriesCell.over _ _) = absurd (cc)
  tried _ found pass _ _ a is (TriesCell.refused _ _ _ _ _) = absurd (cc)
  tried _ found pass _ _ a is (TriesCell.no_memory _ _ _ _) = absurd (cc)
  tried _ _ _ _ _ a is (TriesCell.lost left found put held b pass mid pass' result by differs made rest) =
      let there = tried left held mid pass' result a is rest in (there.0, (earlier_since pass' there.0 made there.1.0, there.1.1, there.1.2))
  tried _ _ _ _ _ a is (TriesCell.won left found put b pass mid pass' by made retired) =
      subst (λ (b : A). (m : Moment) × IsAlteredAt pass pass' b m) (ok_same b a is) (won_at found put b pass mid pass' by made retired)

  -- **An alteration that was made has a moment of the list, after what the pass had seen before the call: the slot's own exchange of the
  -- cell, which leaves each other cell as it was. Before it the cell has a content x, and after it y, where the function may answer y and
  -- what the caller was given for x.**
  pub altered : (tries : ℕ) (pass pass' : Pass) (result : Result A (NotAltered E)) → AltersCell post code s i kind tries pass pass' result
      → IfOk result (λ a. (m : Moment) × StandsSince pass pass' m
      × ((x y : Option T) × MayAnswer post x (Ok (y, a)) × Says code (link_at m.before i) x × Says code (link_at m.after i) y)
      × ExchangesOnly s i m)
  altered tries pass pass' (Ok a) (first, mid, reads, rest) =
      let there = tried tries first mid pass' (Ok a) a refl rest in (there.0, earlier_since pass' there.0 reads there.1.0, there.1.1, there.1.2)
  altered tries pass pass' (Err e) made = tt

  -- **An alteration that the function refused has a moment of the list, after what the pass had seen before the call, at which the slot
  -- looks at the cell: it read it, or lost an exchange of it. The cell has a content x there for which the function may refuse so.**

  abbrev IsSeenAt : Pass → Pass → Option ℕ → Type 0
  IsSeenAt p q held = (m : Moment) × StandsSince p q m × LooksOnly s i m × (link_at m.before i ≡ held)

  err_same : (d e : E) → ◌≡◌ {A = Result A (NotAltered E)} (Err (Refused d)) (Err (Refused e)) → d ≡ e
  err_same d e is = cc

  refused_at : (left : ℕ) (found : Option ℕ) (p pass pass' : Pass) (result : Result A (NotAltered E)) (e : E) {es : List (Event × Answer)} → result ≡ Err (Refused e) → IsSeenAt p pass found → Makes p pass es
      → TriesCell post code s i kind left found pass pass' result → (m : Moment) × StandsSince p pass' m × LooksOnly s i m × Refuses post code (link_at m.before i) e
  refused_at _ found p pass _ _ e is seen made (TriesCell.over _ _) = absurd (cc)
  refused_at _ found p pass _ _ e is seen made (TriesCell.no_memory _ _ _ _) = absurd (cc)
  refused_at _ _ p _ _ _ e is seen made (TriesCell.won _ _ _ _ _ _ _ _ _ _) = absurd (cc)
  refused_at _ _ p _ _ _ e is seen made (TriesCell.refused left found pass d refuses) =
      (seen.0, seen.1, seen.2, subst (λ (o : Option ℕ). Refuses post code o e) (sym seen.3) (subst (Refuses post code found) (err_same d e is) refuses))
  refused_at _ _ p _ _ _ e is seen before (TriesCell.lost left found put held a pass mid pass' result by differs made rest) =
      let there = lost_there s i held found put differs made in
      refused_at left held p mid pass' result e is (there.0, earlier_since mid there.0 before there.1, there.3, there.2) (makes_then before made) rest

  pub refused : (tries : ℕ) (pass pass' : Pass) (e : E) → AltersCell post code s i kind tries pass pass' (Err (Refused e))
      → (m : Moment) × StandsSince pass pass' m × LooksOnly s i m × Refuses post code (link_at m.before i) e
  refused tries pass pass' e (first, mid, reads, rest) =
      let there = read_there s i first reads in refused_at tries first pass mid pass' (Err (Refused e)) e refl (there.0, there.1, there.3, there.2) reads rest

  -- **What an alteration made is some events of the list**, also where it was not made. So what the pass had seen it has seen still.
  with_retired : (held : Option ℕ) {p mid r : Pass} {es : List (Event × Answer)} → RetiresOut s kind held mid r → Makes p mid es → (fs : List (Event × Answer)) × Makes p r fs
  with_retired (Some v) retired makes = (_, makes_then makes retired.0.made)
  with_retired None {p} {mid} {r} {es} retired makes = (es, subst (λ (q : Pass). Makes p q es) (sym retired) makes)

  with_tries : (left : ℕ) (found : Option ℕ) (p pass pass' : Pass) (result : Result A (NotAltered E)) {es : List (Event × Answer)} → TriesCell post code s i kind left found pass pass' result → Makes p pass es
      → (fs : List (Event × Answer)) × Makes p pass' fs
  with_tries _ _ p _ _ _ {es} (TriesCell.over _ _) makes = (es, makes)
  with_tries _ _ p _ _ _ {es} (TriesCell.refused _ _ _ _ _) makes = (es, makes)
  with_tries _ _ p _ _ _ {es} (TriesCell.no_memory _ _ _ _) makes = (es, makes)
  with_tries _ _ p _ _ _ (TriesCell.lost left found put held a pass mid pass' result by differs made rest) makes = with_tries left held p mid pass' result rest (makes_then makes made)
  with_tries _ _ p _ _ _ (TriesCell.won left found put a pass mid pass' by made retired) makes = with_retired found retired (makes_then makes made)

  pub alters_make : (tries : ℕ) (pass pass' : Pass) (result : Result A (NotAltered E)) → AltersCell post code s i kind tries pass pass' result → (es : List (Event × Answer)) × Makes pass pass' es
  alters_make tries pass pass' result (first, mid, reads, rest) = with_tries tries first pass mid pass' result rest reads
