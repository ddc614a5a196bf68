-- What contracts see of a table of cells. `code` is the code of the element type, by which a name says a content.
--     cells_home cells          its collector;  cells_kind cells     the kind as of which it retires
--     IsForCell cells words i pass     these are the words of its collector, the pass is one of it, and cell i is there
--     out_name out              what the list calls what came out, if anything did
--     RetiresOut s kind held pass pass'     slot s retired the value of this name, as of this kind, by a whole call which reclaims nothing;
--                               where there is none, nothing was done
--     PutsCell code s i kind new pass pass' was     slot s exchanged what cell i holds for the block, or for none, by one event, and
--                               retired what came out; `was` says whether anything did
--     EndsExchange s kind mid pass' ended result     where the exchange was won, what came out was retired; else what failed comes back
--     ReplacesCell code words s a i kind current new pass pass' result     slot s made one event, an exchange that compares
--                               (MakesExchange), which ended so
use Rattle.std.specs.Prelude.{◌≡◌, ◌<◌, ℕ, Bool, Option, None, Some, is_some}
use base.Stored.{Gv}
use Rattle.core.specs.declared.result.Result.{Result}
use Rattle.core.specs.declared.result.Result.TheVariants.{Err, Ok}
use Rattle.seize.specs.Answer.TheVariants.{Link}
use Rattle.seize.specs.Blocks.{IsNamed}
use Rattle.seize.specs.Collectors.{IsPassOf, its_links}
use Rattle.seize.specs.Exchange.TheVariants.{Swap}
use Rattle.seize.specs.Exchanges.{MakesExchange}
use Rattle.seize.specs.Job.TheVariants.{Retire}
use Rattle.seize.specs.Links.{unlinked_name}
use Rattle.seize.specs.Machine.Event.{ExchangeLink}
use Rattle.seize.specs.Makes.{Defers, IsOfKind, MakesOne}
use Rattle.seize_book.specs.declared.book.pass.Pass.{Pass}
use Rattle.seize_guards.specs.declared.block.failed.Failed.{Failed}
use Rattle.seize_parts.specs.declared.block.owned.Owned.{Owned}
use Rattle.seize_guards.specs.declared.block.unlinked.Unlinked.{Unlinked}
use Rattle.seize_guards.specs.declared.parts.Home.{Ghosts}
use Rattle.seize_words.specs.declared.activation.Activation.{Activation}
use Rattle.seize_words.specs.declared.words.Words.{Words}
use Rattle.seize_atomic.specs.declared.cells.Cells.{Cells}

abbrev pub cells_home : {T C : Type 0} {H : Ghosts C T} → Cells T C H → C
cells_home cells = cells.home.now

abbrev pub cells_kind : {T C : Type 0} {H : Ghosts C T} → Cells T C H → ℕ
cells_kind cells = cells.kind

abbrev pub IsForCell : {T C : Type 0} {H : Ghosts C T} → Cells T C H → Words T → ℕ → Pass → Type 0
IsForCell {H = H} cells words i pass = (words ≡ H.its_words (cells_home cells)) × IsPassOf words pass × (i < its_links words)

abbrev pub out_name : {T : Type 0} → Option (Unlinked T) → Option ℕ
out_name (Some out) = Some (unlinked_name out)
out_name None = None

abbrev pub RetiresOut : ℕ → ℕ → Option ℕ → Pass → Pass → Type 0
RetiresOut s kind (Some v) pass pass' = Defers s (Retire v) pass pass' × IsOfKind v kind pass'
RetiresOut s kind None pass pass' = pass' ≡ pass

pub record PutsCell {T : Type 0} (code : T → Gv) (s i kind : ℕ) (new : Option (Owned T)) (pass pass' : Pass) (was : Bool) : Type 0 where
  pub put : Option ℕ
  pub held : Option ℕ
  pub named : IsNamed code new put
  pub mid : Pass
  pub made : MakesOne pass mid (ExchangeLink s i (Swap put)) (Link held)
  pub retired : RetiresOut s kind held mid pass'
  pub answer : was ≡ is_some held

abbrev pub EndsExchange : {T : Type 0} → ℕ → ℕ → Pass → Pass → Result (Option (Unlinked T)) (Failed T) → Result Unit (Failed T) → Type 0
EndsExchange s kind mid pass' (Ok out) (Ok _) = RetiresOut s kind (out_name out) mid pass'
EndsExchange s kind mid pass' (Err failed) (Err back) = (back ≡ failed) × (pass' ≡ mid)
EndsExchange s kind mid pass' _ _ = ⊥

pub record ReplacesCell {T : Type 0} (code : T → Gv) (words : Words T) (s : ℕ) (a : Activation) (i kind : ℕ) (current : Option ℕ)
    (new : Option (Owned T)) (pass pass' : Pass) (result : Result Unit (Failed T)) : Type 0 where
  pub mid : Pass
  pub ended : Result (Option (Unlinked T)) (Failed T)
  pub exchange : MakesExchange code words s a i current new pass mid ended
  pub ends : EndsExchange s kind mid pass' ended result
