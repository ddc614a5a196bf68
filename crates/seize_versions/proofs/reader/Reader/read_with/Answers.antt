use Rattle.std.proofs.Common.{rules, ℕ, option_copied, refl, sym, subst}
use Rattle.seize_versions.specs.Reached.{HoldsAtLeast}
use Rattle.seize_versions.specs.Readers.{reader_newest, reader_slot, reader_versions}
use Rattle.seize_versions.specs.contracts.version.Version.{the_row}
use Rattle.seize_versions.proofs.Readers.{read_no_older, read_reached}
use Rattle.seize_versions.proofs.reader.Reader.read_with.Goals as goal

-- what it found it knows
pub invariant_of-self-clause-reached : goal.invariant_of-self-clause-reached
invariant_of-self-clause-reached g c =
    let reader = c.args.self.now in let versions = reader_versions reader in let coded = (the_row g.row.T).coded in
    subst (λ (n : ℕ). ∥ HoldsAtLeast versions coded.code n c.look-version.new.pass ∥₁) (sym c.number-self.ensures)
    (read_reached versions coded c.look-version.ensures.rule (reader_newest reader) reader.reached (reader_slot reader) (option_copied c.look-version.result) c.look-version.ensures.reads)

-- and that is no older than what it knew
pub returns-clause-reads : goal.returns-clause-reads
returns-clause-reads g c =
    let reader = c.args.self.now in let x = option_copied c.look-version.result in (
      x,
      (
        c.look-version.ensures.reads,
        read_no_older (reader_versions reader) (the_row g.row.T).coded c.look-version.ensures.rule (reader_newest reader) reader.reached (reader_slot reader) x c.look-version.ensures.reads,
        c.number-self.ensures,
      ),
      (c.look-version.result, refl, search rules),
    )
