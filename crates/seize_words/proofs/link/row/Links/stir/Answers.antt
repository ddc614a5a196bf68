use Rattle.std.proofs.Common.{ℕ, ◌<◌, subst}
use Rattle.seize_words.proofs.link.row.Links.stir.Goals as goal

pub stir_all-requires-clause-stand : goal.stir_all-requires-clause-stand
stir_all-requires-clause-stand c = λ l d less.
    let stands = c.requires.stand l (subst (λ (k : ℕ). l < k) c.args.self.now.in_row.0 less) in
    (stands.0, stands.1 d less)
