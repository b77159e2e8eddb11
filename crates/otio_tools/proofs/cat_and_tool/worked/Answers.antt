use Rattle.otio_tools.proofs.cat_and_tool.worked.Goals as goal

pub returns-in-Cat-clause-owed : goal.returns-in-Cat-clause-owed
returns-in-Cat-clause-owed c = rw c.in-Cat.is c.joined.ensures.owed

pub returns-in-ListCat-clause-owed : goal.returns-in-ListCat-clause-owed
returns-in-ListCat-clause-owed c = rw c.in-ListCat.is c.joined-in-ListCat.ensures.owed

pub returns-in-Tool-clause-owed : goal.returns-in-Tool-clause-owed
returns-in-Tool-clause-owed c = rw c.in-Tool.is c.tool_done.ensures.owed

pub returns-in-ListTool-clause-owed : goal.returns-in-ListTool-clause-owed
returns-in-ListTool-clause-owed c = rw c.in-ListTool.is c.tool_done-in-ListTool.ensures.owed
