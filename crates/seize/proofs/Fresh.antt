-- A new list holds the model's new state.
use Rattle.std.proofs.Common.{◌≡◌, ℕ, zero, suc, List, [], ◌∷◌, Option, None, Some, option_map, refl, sym, ap, subst}
use Rattle.std.specs.Prelude.{map, replicate}
use base.Stored.{Gv}
use Rattle.seize_machine.specs.Machine.State as machine
use Rattle.seize_model.specs.Waiting.State.{ModelState, new}
use Rattle.seize_model.specs.Agreement.Shows.{ShowsReclaimers, ShowsState}
use Rattle.seize_model.proofs.Simulation.Openings.{new_shown, opened_shown_with}
use Rattle.seize_book.specs.Tokens.{Name}
use Rattle.seize_alone.specs.Holding.{Holds, found, some_state}

links_same : {T : Type 0} (links : ℕ) → map (λ (o : Option T). option_map Some o) (replicate links None) ≡ replicate links None
links_same zero = refl
links_same (suc links) = ap (λ (l : List (Option (Option _))). None ∷ l) (links_same links)

some_new : {T : Type 0} (size links : ℕ) → some_state (new {T = T} {R = ℕ} size links) ≡ new size links
some_new {T} size links = ap (λ (l : List (Option (Option T))). record { size = size; slots = []; retired = []; links = l; rest = [] }) (links_same links)

pub holds_new : {T : Type 0} (code : T → Gv) (n : Name) (size links : ℕ) → n.slots ≡ 0 → n.links ≡ replicate links None → Holds code (new size links) [] [] n []
holds_new {T} code n size links none empty =
    let at : machine.opening n.slots n.links ≡ machine.opening 0 (replicate links None) = λ j. machine.opening (none j) (empty j) in record {
      gone = 0;
      all = record {
        shows = subst (λ (t : ModelState (Option T) (Option ℕ) × machine.State). ShowsState (Option T) (Option ℕ) (found []) t.0 t.1) (λ j. (sym (some_new size links) j, sym at j)) (new_shown (found []) size links);
        reclaimers = subst (λ (t : ModelState (Option T) (Option ℕ) × machine.State). ShowsReclaimers (Option T) (Option ℕ) (found []) (found []) t.0 t.1) (λ j. (sym (some_new size links) j, sym at j)) (let x = opened_shown_with (found []) (found []) size 0 (replicate links None) in record { batches = x.batches; retired = x.retired; rest = x.rest });
        lent = tt;
        told = tt;
      };
    }
