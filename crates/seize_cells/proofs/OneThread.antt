-- A body that has its thread's token: only this thread opens what the token guards. Assumes `Logic`.
use Rattle.std.proofs.Common.{subst}
use seplogic.Ra.Ura.{Ura}
use mir.Syntax.{Fn, Callee}
use base.Logic.{SProp, ent, via, fst∗, snd∗}
use base.Mask.{every}
use contract.Beside.{Carries}
use contract.Monad.{fact, fact_use}
use contract.Named.{bare_unfolds}
use contract.Running.{Running, tables_of, bare_tables}
use prog.Model.{Model}
use prog.Routine.{over, ◌≼⁺◌}
use prog.Wp.{Calls, Loops, WpFn, Tables}
use sound.WpLaws.{WpFn-mono}
use types.Logic.{Logic, sem}
use denote.Laws.{Ises, Are, owns_show, showss}
use denote.RattleType.{owns}
use denote.Signature.{Signature, types_at}
use denote.Triple.Clauses.{Ended, Clauses, closing}
use denote.Triple.Entry.{on_entry, alive}
use denote.Triple.Handed.{holding, hands}
use denote.Triple.Spec.{Meets, triple_of}
use denote.Triple.Statement.{Contract}
use denote.Triple.Table.{entered}
use denote.Triple.Walked.{Stays, AllGo, walk_of, walk_Meets}

module _ {M : Type 1} {𝓤 : Ura M} (𝓛 : Logic 𝓤) (En : Ended) (hs : Stays En.signature.params En.kept) (c : Clauses 𝓤 En) where
  open 𝓛 use {H, A}

  -- the clauses, with the token before and after
  abbrev pub alone : Clauses 𝓤 En
  alone = holding 𝓤 En (A.tok every) c

  abbrev sig : Signature
  sig = En.signature

  abbrev W : Contract 𝓤
  W = walk_of 𝓛 En hs alone

  abbrev Typed : W.Ghost → Type 0
  Typed z = let Rs = types_at sig.params z.0.0 in Are Rs (Ises Rs) z.0.3 z.0.4

  -- what is passed is of the types of the signature
  all_typed : (z : W.Ghost) → ent 𝓤 (W.pre z) (fact 𝓤 (Typed z))
  all_typed z = let Rs = types_at sig.params z.0.0 in let passed : SProp 𝓤 = sem 𝓛 (owns Rs z.0.3 z.0.4) in let first : SProp 𝓤 = on_entry 𝓛 sig z.0.0 z.0.1 z.0.3 z.0.4 in
      via 𝓤 passed (via 𝓤 first (fst∗ 𝓤 first ((alone z.0.0 z.0.3).requires z.1)) (snd∗ 𝓤 (alive 𝓛 sig z.0.0 z.0.1) passed)) (owns_show 𝓛 Rs (Ises Rs) (showss 𝓛 Rs) z.0.3 z.0.4)

  abbrev Walks : Fn → Type 2
  Walks fn = (C : Calls 𝓤 H) (Λ : Loops 𝓤 H) (z : W.Ghost) → Typed z → ent 𝓤 (W.pre z) (WpFn 𝓤 H C Λ fn (W.args z) (W.post z))

  pub proved_alone : (𝓜 : Model 𝓤 H) (𝓡 : Running 𝓤 H 𝓜) → AllGo 𝓛 sig.lifetimes sig.params En.kept hs → (k : Callee) (fn : Fn) → over 𝓡.env fn ≼⁺ 𝓡.env k → Walks fn → Meets 𝓛 sig (𝓡.run (𝓡.env k)) (closing 𝓛 En c)
  unfolding tables_of
  proved_alone 𝓜 𝓡 go k fn is walk =
      let carried : Carries 𝓤 H 𝓜 (A.tok every) = subst (Carries 𝓤 H 𝓜) 𝓛.turn_is 𝓡.carries in let inner = carried.inner in
      let 𝓣 : Tables 𝓤 H = tables_of 𝓤 H inner (bare_tables 𝓤 H inner 𝓡.allowed 𝓡.how 𝓡.env) in
      let walked = walk_Meets 𝓛 En hs go alone (WpFn 𝓤 H 𝓣.C 𝓣.Λ fn) (WpFn-mono 𝓤 H 𝓛.laws 𝓣 fn) (λ z. fact_use 𝓤 (Typed z) (all_typed z) (walk 𝓣.C 𝓣.Λ z)) in
      hands 𝓛 En (A.tok every) c 𝓜 carried 𝓡 (𝓡.env k)
      (entered 𝓤 H (triple_of 𝓛 sig (closing 𝓛 En alone)) 𝓣.C 𝓣.Λ k fn (bare_unfolds 𝓤 H inner 𝓡.allowed 𝓡.how 𝓡.env k fn is) walked)
