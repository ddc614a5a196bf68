-- What a reader knows after a reading, a publication, or a look.
use Rattle.std.proofs.Common.{◌≡◌, ◌<◌, ◌≤◌, ℕ, List, Option, Some, IfErr, IfOk, sym, subst, arith}
use Rattle.std.specs.Coded.{le_prop}
use Rattle.std.proofs.Math.Logic.{∥∥₁_elim, ∥∥₁_map}
use denote.Bor.{Bor}
use base.Stored.{Coded, Gv}
use Rattle.core.specs.declared.result.Result.{Result}
use Rattle.core.specs.declared.result.Result.TheVariants.{Err, Ok}
use Rattle.seize.specs.Answer.{Answer}
use Rattle.seize.specs.Machine.Event.{Event}
use Rattle.seize.specs.Makes.{Makes, MakesNone}
use Rattle.seize.specs.declared.collector.Collector.{Collector}
use Rattle.seize.proofs.Facts.{still_since, then_none}
use Rattle.seize_book.specs.declared.book.pass.Pass.{Pass}
use Rattle.seize_guards.specs.declared.parts.Home as home
use Rattle.seize_atomic.specs.Cells.{cells_kind}
use Rattle.seize_atomic.proofs.Facts.{alters_make}
use Rattle.seize_versions.specs.Numbers.{MakesNext, number_of}
use Rattle.seize_versions.specs.Reached.{HoldsAtLeast, KeepsToRule, KnowsThen}
use Rattle.seize_versions.specs.Versions.{AltersVersion, LooksAt, Publishes, PublishesAt, ReadsVersion, versions_cell}
use Rattle.seize_versions.specs.declared.version.NotPublished.{NotPublished}
use Rattle.seize_versions.specs.declared.version.NotPublished.TheVariants.{Contended, LastNumber, NoMemory, Refused}
use Rattle.seize_versions.specs.declared.version.Version.{Version}
use Rattle.seize_versions.specs.declared.versions.Versions.{Versions}
use Rattle.seize_versions.proofs.Reached.{reached_after, reached_at, reached_before, reached_still}

-- what stands since a pass still does so where another looked

module _ {T C : Type 0} {c : home.Ghosts C (Version T)} (versions : Versions T C c) (code : Version T → Gv) (s : ℕ) (p q r : Pass) (none : MakesNone q r) where
  looks_still : (x : Option (Version T)) → LooksAt versions code s p q x → LooksAt versions code s p r x
  looks_still x looks = (looks.0, still_since p looks.0 looks.1 none, looks.2, looks.3)

  pub reads_still : (x : Option (Version T)) → ReadsVersion versions code s p q x → ReadsVersion versions code s p r x
  reads_still x reads = ((reads.0.0, then_none reads.0.1 none, reads.0.2), looks_still x reads.1)

  module _ {E : Type 0} (post : Option (Bor T) → Result T E → Type 0) where
    pub published_still : (result : Result ℕ (NotPublished E)) → Publishes versions code post s p q result → Publishes versions code post s p r result
    published_still (Ok n) at = (at.0, still_since p at.0 at.1 none, at.2, at.3)
    published_still (Err (Refused e)) at = (at.0, looks_still at.0 at.1, at.2)
    published_still (Err LastNumber) at = (at.0, looks_still at.0 at.1, at.2)
    published_still (Err NoMemory) at = tt
    published_still (Err Contended) at = tt

    pub altered_then : (tries : ℕ) (result : Result ℕ (NotPublished E)) → AltersVersion versions code post s tries p q result → (es : List (Event × Answer)) × Makes p r es
    altered_then tries result alters =
        let made = alters_make (MakesNext post) code s (versions_cell versions) (cells_kind versions.cells) tries p q alters.0 alters.1 in
        (made.0, then_none made.1 none)

module _ {T R : Type 0} {c : home.Ghosts (Collector (Version T) R) (Version T)} (versions : Versions T (Collector (Version T) R) c) (coded : Coded (Version T)) {p r : Pass} (kept : KeepsToRule versions coded.code r) (n : ℕ)
    (known : ∥ HoldsAtLeast versions coded.code n p ∥₁) where
  -- **A look: what the cell has reached, it has reached still.**
  pub looked : {es : List (Event × Answer)} → Makes p r es → ∥ HoldsAtLeast versions coded.code n r ∥₁
  looked made = ∥∥₁_map known (λ k. reached_still coded kept (versions_cell versions) made n k)

  -- **A reading: it finds no older version.**
  module _ (s : ℕ) (x : Option (Version T)) (reads : ReadsVersion versions coded.code s p r x) where
    pub read_no_older : n ≤ number_of x
    read_no_older = ∥∥₁_elim known le_prop (λ k. reached_at coded kept (versions_cell versions) reads.0.1 n k reads.1.0 reads.1.1 x reads.1.3)

    pub read_reached : ∥ HoldsAtLeast versions coded.code (number_of x) r ∥₁
    read_reached = ∥∥₁_map known (λ k. reached_before coded kept (versions_cell versions) reads.0.1 k.0 reads.1.0 reads.1.1 x reads.1.3)

  -- **A publication: its version is newer.**
  module _ {E : Type 0} (post : Option (Bor T) → Result T E → Type 0) (s : ℕ) {es : List (Event × Answer)} (made : Makes p r es) where
    newer_than : (k : ℕ) → PublishesAt versions coded.code post s p r k → n < k
    newer_than k (m, since, only, (x, y, before, after, next, is)) =
        let le : n ≤ number_of x = ∥∥₁_elim known le_prop (λ k. reached_at coded kept (versions_cell versions) made n k m since x before) in
        omega (arith, le, next.0, is)

    reached_by : (k : ℕ) → PublishesAt versions coded.code post s p r k → ∥ HoldsAtLeast versions coded.code k r ∥₁
    reached_by k (m, since, only, (x, y, before, after, next, is)) =
        subst (λ (m : ℕ). ∥ HoldsAtLeast versions coded.code m r ∥₁) (sym is) (∥∥₁_map known (λ k. reached_after coded kept (versions_cell versions) made k.0 m since (Some y) after))

    pub publish_newer : (result : Result ℕ (NotPublished E)) → Publishes versions coded.code post s p r result → (k : ℕ) → IfOk result (λ m. k ≡ m) → IfErr result (λ _. k ≡ n) → KnowsThen n k result
    publish_newer (Ok m) at k is not_made = (newer_than m at, is)
    publish_newer (Err why) at k is not_made = not_made

    pub publish_reached : (result : Result ℕ (NotPublished E)) → Publishes versions coded.code post s p r result → (k : ℕ) → IfOk result (λ m. k ≡ m) → IfErr result (λ _. k ≡ n) → ∥ HoldsAtLeast versions coded.code k r ∥₁
    publish_reached (Ok m) at k is not_made = subst (λ (m : ℕ). ∥ HoldsAtLeast versions coded.code m r ∥₁) (sym is) (reached_by m at)
    publish_reached (Err why) at k is not_made = subst (λ (m : ℕ). ∥ HoldsAtLeast versions coded.code m r ∥₁) (sym not_made) (looked made)

-- **A reader that saw nothing.**
pub nothing_seen : {T R : Type 0} {c : home.Ghosts (Collector (Version T) R) (Version T)} (versions : Versions T (Collector (Version T) R) c) (code : Version T → Gv) (r : Pass) → KeepsToRule versions code r
    → HoldsAtLeast versions code 0 r
nothing_seen versions code r kept = (kept.goes_on, λ some. absurd (omega (arith, some)))
