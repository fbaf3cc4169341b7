-- The steps that a search goes by, and how far it has come: they name nodes and reads that there are.
use Rattle.std.specs.Prelude.{◌≡◌, ℕ, ◌<◌, ◌≤◌, List, length, IfSome}
use Rattle.std.specs.List.{All}
use Rattle.flow_solve.specs.Limits.{most_nodes}
use Rattle.flow_solve.specs.declared.steps.Step.{Step}
use Rattle.flow_solve.specs.declared.steps.Steps.{Steps}
use Rattle.flow_solve.specs.declared.search.Mark.{Mark}

-- a step between two of the most nodes, of one of so many reads
pub record IsStep (reads : ℕ) (step : Step) : Type 0 where
  pub from : step.arc.from < most_nodes
  pub to : step.arc.to < most_nodes
  pub read : step.read < reads

-- steps, and for each of the most nodes a place among them
pub record AreSteps (reads : ℕ) (steps : Steps) : Type 0 where
  pub each : All (IsStep reads) steps.steps.items
  pub nodes : length steps.begins.items ≡ most_nodes
  pub begins : All (λ begin. begin ≤ length steps.steps.items) steps.begins.items

-- the last step to a node, if there is one, is a step
abbrev pub HasStep : ℕ → Mark → Type 0
HasStep reads mark = IfSome mark.last (IsStep reads)

-- a mark for each of the most nodes
pub record AreMarks (reads : ℕ) (marks : List Mark) : Type 0 where
  pub nodes : length marks ≡ most_nodes
  pub each : All (HasStep reads) marks
