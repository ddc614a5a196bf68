-- The next version may go into the cell, and what an alteration by it comes to; and what a reading is.
use Rattle.std.proofs.Common.{◌≡◌, ◌-◌, ◌^◌, ℕ, Option, None, Some, IfSome, List, option_map, sym, subst, arith}
use denote.Bor.{Bor}
use base.Stored.{Gv}
use Rattle.core.specs.declared.result.Result.{Result}
use Rattle.core.specs.declared.result.Result.TheVariants.{Err, Ok}
use Rattle.seize.specs.Answer.TheVariants.{Link}
use Rattle.seize.specs.Blocks.{HoldsOnly}
use Rattle.seize.specs.Links.{Shows, shared_value}
use Rattle.seize.specs.Machine.Event.{ReadLink}
use Rattle.seize.specs.Machine.History.{Moment}
use Rattle.seize.specs.Machine.State.{link_at}
use Rattle.seize.specs.Makes.{MakesOne}
use Rattle.seize.specs.Moments.{ExchangesOnly, LooksOnly, StandsSince}
use Rattle.seize.specs.Rules.{Says}
use Rattle.seize_book.specs.declared.book.pass.Pass.{Pass}
use Rattle.seize_guards.specs.declared.block.shared.Shared.{Shared}
use Rattle.seize_guards.specs.declared.parts.Home as home
use Rattle.seize_words.specs.declared.words.Words.{Words}
use Rattle.seize_atomic.specs.Alters.{AltersCell, MayAnswer, Refuses}
use Rattle.seize_atomic.specs.Cells.{cells_kind}
use Rattle.seize_atomic.specs.declared.cells.NotAltered.{NotAltered}
use Rattle.seize_atomic.specs.declared.cells.NotAltered.TheVariants as not_altered
use Rattle.seize_atomic.proofs.Facts.{altered, refused, was_read}
use Rattle.seize_versions.specs.Numbers.{IsNext, IsOlder, MakesNext, MayPublish, ComesTo, number_of, value_in}
use Rattle.seize_versions.specs.Versions.{Publishes, PublishesAt, ReadsVersion, RefusesAt, versions_cell}
use Rattle.seize_versions.specs.declared.version.NotPublished.{NotPublished}
use Rattle.seize_versions.specs.declared.version.NotPublished.TheVariants.{Contended, LastNumber, NoMemory, Refused}
use Rattle.seize_versions.specs.declared.version.Version.{Version}
use Rattle.seize_versions.specs.declared.versions.Versions.{Versions}

-- what is made may go into the cell
pub may_hold : {T E : Type 0} (post : Option (Bor T) → Result T E → Type 0) (keeps : ℕ → Option (Version T) → Option (Version T) → Type 0) (owners : Version T → List (List ℕ)) (store : List ℕ) (i : ℕ)
    → MayPublish keeps owners store i → (x y : Option (Version T)) (n : ℕ) → MayAnswer (MakesNext post) x (Ok (y, n)) → keeps i x y × IfSome y (HoldsOnly owners store)
may_hold post keeps owners store i may x None n (b, is, made) = absurd made
may_hold {T} post keeps owners store i may x (Some y) n (b, is, made) =
    may x y (subst (λ (o : Option (Version T)). IsOlder o (Some y)) is (omega (arith, made.0.0)))

module _ {T C : Type 0} {c : home.Ghosts C (Version T)} (versions : Versions T C c) (code : Version T → Gv) where
  -- **What a read found, the cell holds at a moment.**
  pub reads_version : (words : Words (Version T)) (s : ℕ) (held : Option ℕ) (found : Option (Shared (Version T))) {p q : Pass} → MakesOne p q (ReadLink s (versions_cell versions)) (Link held) → Shows words code held found
      → ReadsVersion versions code s p q (option_map shared_value found)
  reads_version words s held found reads shows =
      let there = was_read words code s (versions_cell versions) held found reads shows in (
        (held, reads, subst (λ (o : Option ℕ). Says code o (option_map shared_value found)) there.3 there.4),
        (there.0, there.1, there.2, there.4),
      )

  module _ {E : Type 0} (post : Option (Bor T) → Result T E → Type 0) (s tries : ℕ) (p q : Pass) where
    abbrev Alters : Result ℕ (NotAltered (NotPublished E)) → Type 0
    Alters answer = AltersCell (MakesNext post) code s (versions_cell versions) (cells_kind versions.cells) tries p q answer

    published : (n : ℕ) → Alters (Ok n) → PublishesAt versions code post s p q n
    published n alters =
        let t = altered (MakesNext post) code s (versions_cell versions) (cells_kind versions.cells) tries p q (Ok n) alters in
        go t.0 t.1 t.3 t.2.0 t.2.1 t.2.2 t.2.3 t.2.4
      where
        go : (m : Moment) → StandsSince p q m → ExchangesOnly s (versions_cell versions) m → (x y : Option (Version T)) → MayAnswer (MakesNext post) x (Ok (y, n)) → Says code (link_at m.before (versions_cell versions)) x
            → Says code (link_at m.after (versions_cell versions)) y → PublishesAt versions code post s p q n
        go m since only x None (b, is, made) before after = absurd made
        go m since only x (Some y) (b, is, made) before after = (m, since, only, (x, y, before, after, subst (λ (o : Option (Version T)). IsNext post o y) is made.0, made.1))

    refuses : (why : NotPublished E) → Alters (Err (not_altered.Refused why)) → RefusesAt versions code post s p q why
    refuses why alters =
        let t = refused (MakesNext post) code s (versions_cell versions) (cells_kind versions.cells) tries p q why alters in
        go why t.0 t.1 t.2 t.3
      where
        go : (e : NotPublished E) (m : Moment) → StandsSince p q m → LooksOnly s (versions_cell versions) m → Refuses (MakesNext post) code (link_at m.before (versions_cell versions)) e → RefusesAt versions code post s p q e
        go (Refused e) m since looks (x, says, (b, is, made)) = (x, (m, since, looks, says), subst (λ (o : Option (Version T)). MayAnswer post (value_in o) (Err e)) is made)
        go LastNumber m since looks (x, says, (b, is, made)) = (x, (m, since, looks, says), subst (λ (o : Option (Version T)). number_of o ≡ 2 ^ 64 - 1) is made)
        go NoMemory m since looks refusal = tt
        go Contended m since looks refusal = tt

    -- **A publication has its moment, also where the function refused.**
    pub settles : (answer : Result ℕ (NotAltered (NotPublished E))) → Alters answer → (result : Result ℕ (NotPublished E)) → ComesTo answer result → Publishes versions code post s p q result
    settles (Ok n) alters result is = subst (Publishes versions code post s p q) (sym is) (published n alters)
    settles (Err (not_altered.Refused why)) alters result is = subst (Publishes versions code post s p q) (sym is) (refuses why alters)
    settles (Err not_altered.NoMemory) alters result is = subst (Publishes versions code post s p q) (sym is) tt
    settles (Err not_altered.Contended) alters result is = subst (Publishes versions code post s p q) (sym is) tt
