use Rattle.damon_app.proofs.heat.write_tables_in.Goals as goal

pub returns-in-Eight-clause-all : goal.returns-in-Eight-clause-all
returns-in-Eight-clause-all g c = rw c.in-Eight.is c.write_tables.ensures.all

pub returns-in-Eight-clause-part : goal.returns-in-Eight-clause-part
returns-in-Eight-clause-part g c = rw c.in-Eight.is c.write_tables.ensures.part

pub returns-in-Sixteen-clause-all : goal.returns-in-Sixteen-clause-all
returns-in-Sixteen-clause-all g c = rw c.in-Sixteen.is c.write_tables-in-Sixteen.ensures.all

pub returns-in-Sixteen-clause-part : goal.returns-in-Sixteen-clause-part
returns-in-Sixteen-clause-part g c = rw c.in-Sixteen.is c.write_tables-in-Sixteen.ensures.part

pub returns-in-SixtyFour-clause-all : goal.returns-in-SixtyFour-clause-all
returns-in-SixtyFour-clause-all g c = rw c.in-SixtyFour.is c.write_tables-in-SixtyFour.ensures.all

pub returns-in-SixtyFour-clause-part : goal.returns-in-SixtyFour-clause-part
returns-in-SixtyFour-clause-part g c = rw c.in-SixtyFour.is c.write_tables-in-SixtyFour.ensures.part
