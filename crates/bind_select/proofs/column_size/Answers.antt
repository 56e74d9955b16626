-- `bind_select::column_size` meets its contract.
use mathlib.Core.Path.{ap, ◌∙◌}
use native.Mathlib.Omega.{arith}
use lib.ListN.{length}
use Rattle.bind_select.specs.Columns.{called_found, called_unknown, called_name}
use Rattle.bind_select.specs.Entries.{one_entry}
use Rattle.bind_select.specs.Selects.{added_given, added_refused, item_unknown, item_named}
use Rattle.bind_select.proofs.column_size.Goals as goal

pub entry_len-requires : goal.entry_len-requires
entry_len-requires c =
    let l = called_name c.args.t.now c.args.n.now c.column_called.ensures c.requires c.in-Some.is in
    omega (arith, l)

pub returns-in-Some : goal.returns-in-Some
returns-in-Some c =
    let t = c.args.t.now in
    let n = c.args.n.now in
    let d = c.column_called.ensures in
    let q = c.in-Some.is in
    let l = called_name t n d c.requires q in record {
      few = omega (arith, c.entry_len.ensures, l);
      told = λ v x hv hx.
          let f = called_found t n d q v x hv hx in
          added_given (item_named v x f.gives) (c.entry_len.ensures ∙ omega (arith, ap length f.bound.name, one_entry f.value));
    }

pub returns-in-None : goal.returns-in-None
returns-in-None c = record {
  few = tt;
  told = λ v x hv hx.
      let a = c.args in
      added_refused (item_unknown v x (called_unknown a.t.now a.n.now c.column_called.ensures c.in-None.is v x hv hx));
}
