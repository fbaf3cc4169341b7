-- What a design under the least plan shows of its program.
use Rattle.std.proofs.Common.{◌≡◌, ℕ, List, None, sym, subst}
use Rattle.net_build.specs.Limits.{limit_passed}
use Rattle.net_build.specs.Planned.{plan_of}
use Rattle.module_text.specs.Designs.{PlainDesign}
use Rattle.soda_ir.specs.Program.{PlainProgram}
use Rattle.module_text.specs.Texts.{IsDesignText, version_1}
use Rattle.compile_job.specs.Modules.{IsModuleText, IsSizeText, PassesLimit, size_lines}
use Rattle.compile_job.specs.machine.Designs.{IsLeastDesign}

module _ (p : PlainProgram) (d : PlainDesign) (least : IsLeastDesign p d) where
  pub passes_none : PassesLimit p None
  passes_none =
      let P : PlainProgram → Type 0 = λ q. limit_passed (plan_of q d.delays) ≡ None in
      record { delays = d.delays; plan = least.plan; passes = subst P least.program least.design.within }

  pub text_of_design : (text : List ℕ) → IsDesignText version_1 text d → IsModuleText p text
  text_of_design text own = record { design = d; program = least.program; plan = least.plan; text_is = own }

  pub size_of_design : (lines : List ℕ) → lines ≡ size_lines d.program d.delays → IsSizeText p lines
  size_of_design lines same =
      let P : PlainProgram → Type 0 = λ q. lines ≡ size_lines q d.delays in
      record { delays = d.delays; plan = least.plan; lines_are = subst P least.program same }
