use Rattle.std.proofs.Common.{◌≡◌, ℕ, List, [], ◌∷◌, ◌++◌, map, sym, ap, subst, subst₂, ◌∙◌}
use Rattle.seize_model.specs.Waiting.Further.{put_by}
use Rattle.seize_book.specs.Kept.{kepts_of}
use Rattle.seize_book.specs.Others.{value_of}
use Rattle.seize_book.specs.Values.{values_of}
use Rattle.seize_words.specs.Chunks.{IsLentAs}
use Rattle.seize_calls.specs.Furthers.{further_in}
use Rattle.seize_calls.specs.declared.further.Further.{Further}
use Rattle.seize_parts.specs.Blocks.{HoldsOnly}
use Rattle.seize_parts.proofs.Aparts.{Wait, goes_first}
use Rattle.seize_parts.proofs.Given.{given}
use Rattle.seize_parts.proofs.alone.draining.give_up.Goals as goal

-- the permit says that each block inside the value is of the collector
pub reclaim-requires : goal.reclaim-requires
reclaim-requires g c =
    let owners = g.R.Puts.owners in let code = g.row.T.coded.code in let value = c.into_value-value.result in let permits = c.args.ender.now.permits in let v = value_of c.next-key.result.0 in
    let lent : IsLentAs v (code value) = subst (λ x. IsLentAs v (code x)) (sym (c.into_value-value.ensures ∙ c.of.ensures.0)) c.withdraw-block.ensures.code in
    subst (λ (store : List ℕ). HoldsOnly owners store value) (c.requires.ender.1 ∙ sym c.new-put.ensures.store)
    (given g.row.T.coded (HoldsOnly owners permits.store) value c.permit-permit.result.codes (c.permit-permit.ensures.1 ∙ ap (λ (l : ℕ). l ∷ []) lent) c.check.ensures)

-- what was lent with the first name is what came out of its block
pub returns-clause-goes : goal.returns-clause-goes
returns-clause-goes g c = λ v vs waits.
    let coded = g.row.T.coded in let code = coded.code in let puts = g.R.Puts.puts in let value = c.into_value-value.result in let first = c.next-key.ensures.first in
    let queue = further_in c.args.queue.now in let left = further_in c.next-key.new.self in let put = further_in c.reclaim.new.further.chain in let all = c.append.ensures.joins in let kept = c.next-key.result.2 in
    let lent : IsLentAs (value_of c.next-key.result.0) (code value) = subst (λ x. IsLentAs (value_of c.next-key.result.0) (code x)) (sym (c.into_value-value.ensures ∙ c.of.ensures.0)) c.withdraw-block.ensures.code in
    let names = c.reclaim.ensures.2 [] c.new-put.ensures.none in
    let words = c.reclaim.new.further.words ∙ ap (λ (kind : ℕ). map (λ _. kind) (values_of put)) {x = c.reclaim.new.further.kind} {y = kept} (c.reclaim.ensures.1 ∙ c.new-put.ensures.its.1) in
    let still : c.none.new.self ≡ c.next-key.new.self = c.none.ensures.0 in
    let gone = goes_first coded puts (values_of queue) (kepts_of queue) (values_of left) (kepts_of left) (values_of put) (kepts_of put) (value_of c.next-key.result.0) kept value v vs waits first.first first.its_word lent names words in (
      c.gone.ensures ∙ ap (λ x. g.W.Watch.told (g.W.Watch.seen c.args.watch.now) x) gone.0,
      subst₂ (λ (names words : List ℕ). Wait code names words (vs ++ put_by puts v))
          (sym (all.all ∙ ap (λ (further : Further). values_of (further_in further) ++ values_of put) still))
          (sym (all.kept ∙ ap (λ (further : Further). kepts_of (further_in further) ++ kepts_of put) still)) gone.1,
    )
