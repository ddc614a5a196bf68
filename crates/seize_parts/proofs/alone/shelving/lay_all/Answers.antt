use Rattle.std.proofs.Common.{None, refl, sym, ◌∙◌, arith}
use Rattle.std.proofs.lemmas.List.{get_or_default, length-set}
use Rattle.seize_words.specs.Joined.{words_book}
use Rattle.seize_parts.proofs.Homing.{less_places}
use Rattle.seize_parts.proofs.alone.shelving.lay_all.Goals as goal

pub loop-n-init : goal.loop-n-init
loop-n-init g c = (refl, c.requires.places)

pub lay-requires : goal.lay-requires
lay-requires g c =
    let items = c.loop-n.places.items in let n = c.loop-n.n in let i = c.loop-n.invariant in let less = c.loop-n-test.true in let many = c.len-n-end.ensures in let same = i.0 in let porter = c.requires.porter in let lends = c.pass.ensures.book in (
      omega arith,
      (
        (sym (lends.0 ∙ porter.1), sym (lends.1 ∙ porter.2)),
        i.1 n c.in-Some.place (get_or_default items n None c.index_mut.result.now (omega (arith, less, many, same)) ∙ sym c.index_mut.ensures.value ∙ sym c.take.ensures.value ∙ c.in-Some.is),
      ),
    )

pub loop-n-preserved : goal.loop-n-preserved
loop-n-preserved g c =
    let items = c.loop-n.places.items in let n = c.loop-n.n in let i = c.loop-n.invariant in
    (length-set items n c.take.new.self ∙ i.0, less_places (words_book c.args.words.now) items _ n c.take.new.self c.take.ensures.after refl i.1)
