use Rattle.std.proofs.Common.{ℕ, List, [], ◌∷◌, ◌++◌, map, sym, ap, subst, ◌∙◌}
use Rattle.seize_book.specs.Kept.{kepts_of}
use Rattle.seize_book.specs.Values.{values_of}
use Rattle.seize_calls.specs.Furthers.{further_in}
use Rattle.seize_calls.specs.Handing.{Had}
use Rattle.seize_parts.specs.Blocks.{HoldsOnly}
use Rattle.seize_alone.specs.Gone.{PutAs}
use Rattle.seize_parts.proofs.Given.{given, put_more}
use Rattle.seize_parts.proofs.ends.ForwardsReclaim.reclaim.Goals as goal

-- the permit says that each block inside the value is of the collector
pub reclaim-requires : goal.reclaim-requires
reclaim-requires g c =
    let owners = g.R.Puts.owners in let value = c.args.value in let permits = c.args.self.now.ender.now.permits in
    subst (λ (store : List ℕ). HoldsOnly owners store value) (c.requires.serves.0.1 ∙ sym c.new-put.ensures.store)
    (given g.row.T.coded (HoldsOnly owners permits.store) value c.args.permit.codes c.requires.permit.1 c.check.ensures)

pub returns-clause-serves : goal.returns-clause-serves
returns-clause-serves g c =
    let code = g.row.T.coded.code in let puts = g.R.Puts.puts in let before = c.args.self.now.ends.had in let put = further_in c.reclaim.new.further.chain in
    let more : Had = (c.args.kept, c.take.new.self.at, values_of put, kepts_of put) ∷ [] in
    let names = c.reclaim.ensures.2 [] c.new-put.ensures.none in
    let kinds = c.reclaim.new.further.words ∙ ap (λ (kind : ℕ). map (λ _. kind) (values_of put)) (c.reclaim.ensures.1 ∙ c.new-put.ensures.its.1) in (
      c.requires.serves.0,
      subst (PutAs code puts) (sym (c.note.ensures ∙ ap (λ (had : Had). had ++ more) c.take.ensures.0))
          (put_more code puts before more c.requires.serves.1 ((c.args.value, sym c.take.ensures.1, names, kinds), tt)),
    )
