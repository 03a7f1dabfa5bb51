use Rattle.std.proofs.Common.{◌↔◌, IsTrue, subst, sym}
use Rattle.history_file.specs.Shallow.{IsShallowInside}
use Rattle.history_file.specs.Spelled.{IsShallow}
use Rattle.history_file.proofs.ShallowLaws.{called_shallow, rescued_shallow}
use Rattle.history_file.proofs.shallow.+looks.Goals as goal

pub is_shallow-returns-in-Called : goal.is_shallow-returns-in-Called
is_shallow-returns-in-Called t c =
    let r = c.in-Called in record {
      value = subst (λ e. IsTrue c.fits.result ↔ IsShallow c.args.room e) (sym r.is)
          (called_shallow c.args.room r.hart r.call c.fits.result (rw (sym c.items.ensures.list) c.fits.ensures.value));
    }

pub is_shallow-returns-in-Rescued : goal.is_shallow-returns-in-Rescued
is_shallow-returns-in-Rescued t c =
    let r = c.in-Rescued in record {
      value = subst (λ e. IsTrue c.inside_fits.result ↔ IsShallow c.args.room e) (sym r.is)
          (rescued_shallow c.args.room r.hart r.point r.fault r.inside c.inside_fits.result
          (subst (λ es. IsTrue c.inside_fits.result ↔ IsShallowInside c.args.room es) c.as_slice.ensures c.inside_fits.ensures.value));
    }
