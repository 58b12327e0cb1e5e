-- What `vars` answers to a file.
use Rattle.std.specs.Prelude.{ℕ, Bool, true, false, List, [], ◌∷◌, ◌++◌, codes}
use Rattle.std.specs.List.{join_by}
use Rattle.dlk_tree.specs.declared.op.Kind.{Kind}
use Rattle.dlk_tree.specs.declared.op.Kind.TheVariants.{Func, UnitFunc, Pred, UnitPred, Quant, Prog, Ode}
use Rattle.dlk_tree.specs.declared.op.Sym.{Sym}
use Rattle.dlk_tree.specs.declared.op.Var.{Var}
use Rattle.dlk_tree.specs.Trees.{Tree}
use Rattle.dlk_tree.specs.Statics.{free, bound, must}
use Rattle.dlk_tree.specs.Listed.{IsListing, IsSignature}
use Rattle.dlk_grammar.specs.Shown.{spell, variable}
use Rattle.dlk_grammar.specs.Symbols.{shown_symbol}
use Rattle.dlk_grammar.specs.Texts.{TextFault}
use Rattle.dlk_replies.specs.declared.form.Role.TheVariants.{File}
use Rattle.dlk_replies.specs.declared.reply.Status.TheVariants.{Done}
use Rattle.dlk_replies.specs.Replies.{Reply, printing}
use Rattle.dlk_print.specs.Lines.{line}
use Rattle.dlk_replies.specs.Refusals.{text_refused}
use Rattle.dlk_jobs_text.specs.Prints.{FileText, FileFault}

-- the word for a kind of symbol
abbrev pub kind_word : Kind → List ℕ
kind_word Func = codes "function"
kind_word UnitFunc = codes "unit-function"
kind_word Pred = codes "predicate"
kind_word UnitPred = codes "unit-predicate"
kind_word Quant = codes "predicational"
kind_word Prog = codes "program"
kind_word Ode = codes "ode"

-- a kind's word, and the symbol over its argument dots
abbrev pub kind_and_symbol : Sym → List ℕ
kind_and_symbol s = kind_word s.kind ++ (codes " " ++ spell (shown_symbol s))

abbrev pub variables : List Var → List ℕ
variables vars = join_by (λ v. spell (variable v)) (codes ", ") vars

-- a set by its members, or by what it leaves out
abbrev pub set_text : Bool → List Var → List ℕ
set_text false [] = codes "none"
set_text false (v ∷ vars) = variables (v ∷ vars)
set_text true [] = codes "all"
set_text true (v ∷ vars) = codes "all but " ++ variables (v ∷ vars)

abbrev pub signature_text : List Sym → List ℕ
signature_text [] = codes "none"
signature_text (s ∷ syms) = join_by kind_and_symbol (codes ", ") (s ∷ syms)

-- a set of variables is written so
pub data IsWritten (set : Var → Bool) : List ℕ → Type 0 where
  set_listed : (all_but : Bool) (vars : List Var) → IsListing set all_but vars → IsWritten set (set_text all_but vars)

-- the symbols of a tree are written so
pub data AreWritten (t : Tree) : List ℕ → Type 0 where
  symbols_listed : (syms : List Sym) → IsSignature t syms → AreWritten t (signature_text syms)

-- the four lines
abbrev pub four_lines : List ℕ → List ℕ → List ℕ → List ℕ → Reply
four_lines free bound must symbols = printing Done
    (line (codes "free: " ++ free) ++ (line (codes "bound: " ++ bound) ++ (line (codes "must: " ++ must) ++ line (codes "symbols: " ++ symbols))))

-- Lists file reply: this is what is answered to the file. One case an answer.
pub data Lists (file : List ℕ) : Reply → Type 0 where
  bad_text : (why : TextFault) → FileFault file why → Lists file (text_refused File why)
  lists : (t : Tree) → FileText file t → (f b m s : List ℕ) → IsWritten (free t) f → IsWritten (bound t) b → IsWritten (must t) m → AreWritten t s →
      Lists file (four_lines f b m s)
