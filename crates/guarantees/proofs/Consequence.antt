-- A promise that says less: the logic's rule of consequence, for a promise of one clause.
-- Assumes nothing.
use mir.Syntax.{Callee}
use prog.Wired.{Code}
use contract.Fact.{fact, fact_mono}
use contract.Lifetimes.{Lfts}
use base.Logic.{emp}
use denote.Triple.Clauses.{Ended, AtExit, at_exit}
use denote.Triple.Entry.{Args, Res}
use denote.Triple.Weaken.{weaken}
use denote.Ask.Run.{routine_mono}
use Rattle.guarantees.specs.Promised.{Claim, Promised}

pub promised_less : (T : Ended) (code : Code) (name : Callee) (M : Type 1) (P Q : Claim T)
    → ((κs : Lfts T.signature.lifetimes) (a : Args T.signature κs) (r : Res T.signature κs) (s : AtExit T κs) → P κs a r s → Q κs a r s)
    → Promised T code name M P → Promised T code name M Q
promised_less T code name M P Q h m 𝓤 𝓛 𝓜 𝓡 wired =
    weaken 𝓛 T (λ κs a. record { ghost = Unit {0}; requires = λ _. emp 𝓤; ensures = λ _ r s. fact 𝓤 (P κs a r s) })
    (λ κs a _ r s. fact 𝓤 (Q κs a r s))
    (λ κs a _ r ws. fact_mono 𝓤 (P κs a r (at_exit T κs a ws)) (Q κs a r (at_exit T κs a ws)) (h κs a r (at_exit T κs a ws)))
    (𝓡.run (𝓡.env name)) (routine_mono 𝓤 𝓛.H 𝓜 𝓡 (𝓡.env name)) (m 𝓤 𝓛 𝓜 𝓡 wired)
